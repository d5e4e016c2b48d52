-- A text is of version 3, or of version 1 or 2; one that begins with a front begins with one front alone.
use Rattle.std.proofs.Common.{◌≡◌, ◌<◌, ℕ, zero, suc, List, [], ◌∷◌, ◌++◌, map, length, drop, refl, sym, ap, ◌∙◌, subst, arith, append_assoc, inl, inr, Some}
use Rattle.std.specs.Prelude.{slice_get, get_or, codes}
use Rattle.std.specs.List.{AllByRecursion}
use Rattle.std.proofs.lemmas.List.{length-map}
use Rattle.wh_words.specs.Lines.{text_of}
use Rattle.wh_points.specs.Points.{Site}
use Rattle.wh_log.specs.Logs.{IsSlots, head_line}
use Rattle.wh_log.specs.Torn.{IsUnopened}
use Rattle.wh_log.specs.declared.version.Version.{Version}
use Rattle.wh_log.specs.declared.version.Version.TheVariants.{One, Two}
use Rattle.wh_log.proofs.LineLaws.{not_whole}
use Rattle.wh_front.specs.declared.front.Front.{Front}
use Rattle.wh_front.specs.declared.front.Seat.{Seat}
use Rattle.wh_front.specs.Spelling.{front_line}
use Rattle.wh_front.specs.Fronts.{Fits, front_lines, front_text}
use Rattle.wh_front.proofs.Readings.{one_front}
use Rattle.wh_resume.specs.Behind.{HasOddSlots, IsVersionThree}

-- the digit of the version
abbrev digit : List ℕ → ℕ
digit text = get_or text 5 0

three_digit : (text : List ℕ) → IsVersionThree text → digit text ≡ 51
three_digit text v = ap digit v.is

pub two_or_three : (lines : List (List ℕ)) (more text : List ℕ) → text ≡ text_of (head_line Two ∷ lines) ++ more → IsVersionThree text → ⊥
two_or_three lines more text is v = let e : 50 ≡ 51 = sym (ap digit is) ∙ three_digit text v in omega (arith, e)

one_or_three : (lines : List (List ℕ)) (more text : List ℕ) → text ≡ text_of (head_line One ∷ lines) ++ more → IsVersionThree text → ⊥
one_or_three lines more text is v = let e : 49 ≡ 51 = sym (ap digit is) ∙ three_digit text v in omega (arith, e)

pub two_or_three_any : (version : Version) (lines : List (List ℕ)) (more text : List ℕ) → text ≡ text_of (head_line version ∷ lines) ++ more → IsVersionThree text → ⊥
two_or_three_any One lines more text is v = one_or_three lines more text is v
two_or_three_any Two lines more text is v = two_or_three lines more text is v

-- a front is of version 3
front_three : (f : Front) (more : List ℕ) → IsVersionThree (front_text f ++ more)
front_three f more = record { rest = text_of (map front_line (drop 1 (front_lines f))) ++ more; is = refl }

pub whole_three : (f : Front) (more text : List ℕ) → text ≡ front_text f ++ more → IsVersionThree text
whole_three f more text is = subst (λ (t : List ℕ). IsVersionThree t) (sym is) (front_three f more)

pub three_behind : (f : Front) (entries more text : List ℕ) → text ≡ (front_text f ++ entries) ++ more → IsVersionThree text
three_behind f entries more text is = whole_three f (entries ++ more) text (is ∙ append_assoc (front_text f) entries more)

-- at least its first line stands whole
pub unopened_three : (text : List ℕ) → IsVersionThree text → IsUnopened text → ⊥
unopened_three text v (inl none) = not_whole text (codes "wlog 3") v.rest none v.is
unopened_three text v (inr (One, rest, is, text_is)) = let e : 49 ≡ 51 = sym (ap digit text_is) ∙ three_digit text v in omega (arith, e)
unopened_three text v (inr (Two, rest, is, text_is)) = let e : 50 ≡ 51 = sym (ap digit text_is) ∙ three_digit text v in omega (arith, e)

-- one front stands there
pub same_front : (f g : Front) (x y text : List ℕ) → Fits f → Fits g → text ≡ front_text f ++ x → text ≡ front_text g ++ y → (f ≡ g) × (x ≡ y)
same_front f g x y text fits others is also = one_front f g x y fits others (sym is ∙ also)

-- ---- none of its lines is refused

slots_at : (seats : List Seat) (agent : ℕ) (seat : Seat) → AllByRecursion IsSlots (map (λ (s : Seat). s.slots) seats) → slice_get seats agent ≡ Some seat → IsSlots seat.slots
slots_at [] agent seat all is = cc
slots_at (s ∷ seats) zero seat all is = let same : s ≡ seat = cc in subst (λ (x : Seat). IsSlots x.slots) same all.0
slots_at (s ∷ seats) (suc agent) seat all is = slots_at seats agent seat all.1 is

pub no_odd : (site : Site) (text : List ℕ) (line : ℕ) → (odd : HasOddSlots site text line) → AllByRecursion IsSlots (map (λ (s : Seat). s.slots) odd.front.seats) → ⊥
no_odd site text line odd all = odd.odd (slots_at odd.front.seats odd.agent odd.seat all odd.seat_is)

seat_known : (seats : List Seat) (agent : ℕ) (seat : Seat) → slice_get seats agent ≡ Some seat → agent < length seats
seat_known [] agent seat is = cc
seat_known (s ∷ seats) zero seat is = omega arith
seat_known (s ∷ seats) (suc agent) seat is = let rest = seat_known seats agent seat is in omega (arith, rest)
