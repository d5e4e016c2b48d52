-- What stands before a bad line can be gone on from.
use Rattle.std.proofs.Common.{◌≡◌, ◌≤◌, ◌<◌, ◌+◌, ◌⊎◌, ℕ, inl, inr, List, [], ◌∷◌, ◌++◌, length, take, refl, sym, ap, ◌∙◌, subst, arith, length-append, append_assoc, append-nil, Some}
use Rattle.std.specs.Prelude.{All, map, slice_get}
use Rattle.std.specs.List.{AllByRecursion}
use Rattle.std.proofs.lemmas.List.{length-map}
use Rattle.std.proofs.lemmas.List.Elements.{All-from_recursion}
use Rattle.wh_points.specs.Points.{Site}
use Rattle.wh_words.specs.Lines.{text_of}
use Rattle.wh_text.specs.Lines.{IsLine}
use Rattle.wh_core.specs.States.{State}
use Rattle.wh_log.specs.declared.version.Version.TheVariants.{Two}
use Rattle.wh_log.specs.Logs.{Content, IsSlots, Opens, head_line, start_line}
use Rattle.wh_log.specs.FirstBad.{IsFirstBad, Begins}
use Rattle.wh_log.specs.Torn.{IsUnopened}
use Rattle.wh_log.proofs.LineLaws.{one_text}
use Rattle.wh_log.proofs.Fronts.{text-append, all_append}
use Rattle.wh_front.specs.declared.front.Front.{Front}
use Rattle.wh_front.specs.declared.front.Seat.{Seat}
use Rattle.wh_front.specs.declared.line.Line.TheVariants as lines
use Rattle.wh_front.specs.Spelling.{front_line}
use Rattle.wh_front.specs.Fronts.{front_text, front_lines}
use Rattle.wh_front.proofs.Readings.{one_front, one_cons}
use Rattle.wh_front.proofs.Running.{front_fit}
use Rattle.wh_restore.specs.declared.reason.Reason.TheVariants as reasons
use Rattle.wh_restore.specs.Heads.{first_two_lines}
use Rattle.wh_restore.specs.SoundFronts.{state_told}
use Rattle.wh_restore.specs.FirstFlawed.{IsFirstFlawed}
use Rattle.wh_resume.specs.declared.recovery.Resumed.{Resumed}
use Rattle.wh_resume.specs.declared.recovery.Recovery.{Recovery}
use Rattle.wh_resume.specs.declared.recovery.Recovery.TheVariants as told
use Rattle.wh_resume.specs.Behind.{IsVersionThree, IsFrontOf, IsRunFrom, HasOddSlots, rules_of}
use Rattle.wh_resume.specs.Resuming.{IsRunOf, EndsBefore, IsWhyBad, Tells, FrontsAreResumed}
use Rattle.wh_resume.proofs.Versions.{no_log_begins}
use Rattle.wh_resume.proofs.Going.{bad_behind, cut_lines, lines_are, two_and_more}
use Rattle.wh_resume.proofs.FrontLaws.{front_three, front_opened, slots_at, seat_known}
use Rattle.wh_resume.proofs.Walks.{same_lines, not_unopened, front_is}

-- ---- the lines before a bad one behind a front
record Good (site : Site) (front : Front) (taken : List ℕ) : Type 0 where
  slots : All IsSlots (map (λ (seat : Seat). seat.slots) front.seats)
  rest : List ℕ
  text_is : taken ≡ front_text front ++ rest
  begins : Begins (IsRunFrom site (state_told front)) (first_two_lines front.clock (map (λ (seat : Seat). seat.slots) front.seats) ++ rest)

opens_so : (site : Site) (opening : State) (text : List ℕ) → Begins (IsRunFrom site opening) text → Opens opening.clock opening.slots
opens_so site opening text begins =
    let log = begins.whole in
    subst (λ (ns : List ℕ). Opens opening.clock ns) log.holds.slots_are (subst (λ (n : ℕ). Opens n log.content.slots) log.holds.clock_is log.is.fits.opens)

good_lines : (site : Site) (front : Front) (rest text : List ℕ) (line bytes number : ℕ) → IsFrontOf site front → text ≡ front_text front ++ rest
    → IsFirstBad (IsRunFrom site (state_told front)) (first_two_lines front.clock (map (λ (seat : Seat). seat.slots) front.seats) ++ rest) number → line + 2 ≡ number + length (front_lines front)
    → EndsBefore text line bytes → Good site front (take bytes text)
good_lines site front rest text line bytes number is parts bad counted e =
    by bad.before bad.rest bad.place bad.lines bad.parts bad.begins
  where
    by : (before : List (List ℕ)) (behind : List ℕ) → number ≡ length before + 1 → AllByRecursion IsLine before
        → first_two_lines front.clock (map (λ (seat : Seat). seat.slots) front.seats) ++ rest ≡ text_of before ++ behind → Begins (IsRunFrom site (state_told front)) (text_of before) → Good site front (take bytes text)
    by [] behind place all told begins = absurd (let three = bad_behind site (state_told front) rest number (opens_so site (state_told front) (text_of []) begins) bad in omega (arith, place, three))
    by (a ∷ []) behind place all told begins = absurd (let three = bad_behind site (state_told front) rest number (opens_so site (state_told front) (text_of (a ∷ [])) begins) bad in omega (arith, place, three))
    by (a ∷ b ∷ more) behind place all told begins =
        let slots = map (λ (seat : Seat). seat.slots) front.seats in
        let opens = opens_so site (state_told front) (text_of (a ∷ b ∷ more)) begins in
        let cut = cut_lines a b more front.clock slots behind rest all.0 all.1.0 opens (sym told) in
        let two : text_of (a ∷ b ∷ more) ≡ first_two_lines front.clock slots ++ text_of more =
        ap (λ (l : List ℕ). text_of (l ∷ b ∷ more)) cut.0 ∙ ap (λ (l : List ℕ). text_of (head_line Two ∷ l ∷ more)) cut.1 ∙ two_and_more front.clock slots more in
        let lines : List (List ℕ) = map front_line (front_lines front) ++ more in
        let joined : text_of lines ≡ front_text front ++ text_of more = text-append (map front_line (front_lines front)) more in
        let count : length lines ≡ length (front_lines front) + length more = length-append (map front_line (front_lines front)) more ∙ ap (λ (n : ℕ). n + length more) (length-map (front_lines front) front_line) in
        let whole : text ≡ text_of lines ++ behind =
        parts ∙ ap (λ (t : List ℕ). front_text front ++ t) (sym cut.2) ∙ sym (append_assoc (front_text front) (text_of more) behind) ∙ ap (λ (t : List ℕ). t ++ behind) (sym joined) in
        let same : e.before ≡ lines = same_lines e.before lines e.rest behind e.lines (all_append IsLine (map front_line (front_lines front)) more (lines_are (front_lines front) (front_fit front is.fits)) all.1.1)
        (omega (arith, e.place, place, counted, count)) (sym e.parts ∙ whole) in
        record {
          slots = All-from_recursion IsSlots slots opens.each;
          rest = text_of more;
          text_is = front_is text line bytes e ∙ ap text_of same ∙ joined;
          begins = subst (λ (t : List ℕ). Begins (IsRunFrom site (state_told front)) t) two begins;
        }

-- ---- a log of version 1 or 2
-- where a run begins with two lines or more, it is found
begun_is_resumed : (site : Site) (other text : List ℕ) (before : List (List ℕ)) (said : Recovery) → AllByRecursion IsLine before → 2 ≤ length before → text ≡ text_of before ++ []
    → Begins (IsRunOf site) text → (IsVersionThree text → ⊥) → Tells site other text said → (r : Resumed) × (said ≡ told.Resumed r)
begun_is_resumed site other text before (told.Resumed r) h two is begins not t = (r, refl)
begun_is_resumed site other text before (told.Unopened setting) h two is begins not t = absurd (not_unopened before [] h two (subst (λ (x : List ℕ). IsUnopened x) is t.0))
begun_is_resumed site other text before (told.Flawed line reason) h two is begins not t = absurd (not t.version)
begun_is_resumed site other text before (told.Bad line bytes) h two is begins not (e, inl breaks) = absurd (breaks.never begins)
begun_is_resumed site other text before (told.Bad line bytes) h two is begins not (e, inr (inl behind)) = absurd (not (front_three behind.front behind.rest text behind.text_is))
begun_is_resumed site other text before (told.Bad line bytes) h two is begins not (e, inr (inr otherwise)) = absurd (not_unopened before [] h two (subst (λ (x : List ℕ). IsUnopened x) is otherwise.unopened))

-- ---- a log that begins with a state
-- where a run begins behind a front, it is found
goes_is_resumed : (site : Site) (other text rest : List ℕ) (front : Front) (said : Recovery) → IsFrontOf site front → All IsSlots (map (λ (seat : Seat). seat.slots) front.seats) → text ≡ front_text front ++ rest
    → Begins (IsRunFrom site (state_told front)) (first_two_lines front.clock (map (λ (seat : Seat). seat.slots) front.seats) ++ rest) → Tells site other text said → (r : Resumed) × (said ≡ told.Resumed r)
goes_is_resumed site other text rest front (told.Resumed r) is slots parts begins t = (r, refl)
goes_is_resumed site other text rest front (told.Unopened setting) is slots parts begins t = absurd (front_opened front rest text parts t.0)
goes_is_resumed site other text rest front (told.Flawed line reason) is slots parts begins t = absurd (not_flawed t.why)
  where
    not_flawed : IsFirstFlawed site (rules_of site) text line reason ⊎ ((reason ≡ reasons.Form) × HasOddSlots site text line) → ⊥
    not_flawed (inl flawed) = flawed.none front rest is parts
    not_flawed (inr odd) =
        let same = one_front odd.1.front front odd.1.rest rest odd.1.is_front.fits is.fits (sym odd.1.text_is ∙ parts) in
        odd.1.odd (slots_at front.seats odd.1.agent odd.1.seat (subst (λ (f : Front). slice_get f.seats odd.1.agent ≡ Some odd.1.seat) same.0 odd.1.seat_is) slots)
goes_is_resumed site other text rest front (told.Bad line bytes) is slots parts begins (e, inl breaks) = absurd (breaks.version (front_three front rest text parts))
goes_is_resumed site other text rest front (told.Bad line bytes) is slots parts begins (e, inr (inl behind)) =
    let same = one_front behind.front front behind.rest rest behind.is_front.fits is.fits (sym behind.text_is ∙ parts) in
    let B : Front → List ℕ → Type 0 = λ f x. Begins (IsRunFrom site (state_told f)) (first_two_lines f.clock (map (λ (seat : Seat). seat.slots) f.seats) ++ x) → ⊥ in
    absurd (subst (λ (x : List ℕ). B front x) same.1 (subst (λ (f : Front). B f behind.rest) same.0 behind.never) begins)
goes_is_resumed site other text rest front (told.Bad line bytes) is slots parts begins (e, inr (inr otherwise)) = absurd (front_opened front rest text parts otherwise.unopened)

front_resumed : (site : Site) (begun other text : List ℕ) (line bytes : ℕ) (said : Recovery) (e : EndsBefore text line bytes) → IsWhyBad site begun text line → 3 ≤ line
    → Tells site other (take bytes text) said → (r : Resumed) × (said ≡ told.Resumed r)
front_resumed site begun other text line bytes said e (inl breaks) three t =
    let bad = breaks.bad in
    let same : e.before ≡ bad.before = same_lines e.before bad.before e.rest bad.rest e.lines bad.lines (omega (arith, e.place, bad.place)) (sym e.parts ∙ bad.parts) in
    let front : take bytes text ≡ text_of bad.before = front_is text line bytes e ∙ ap text_of same in
    begun_is_resumed site other (take bytes text) bad.before said bad.lines (omega (arith, bad.place, three)) (front ∙ sym (append-nil (text_of bad.before)))
    (subst (λ (x : List ℕ). Begins (IsRunOf site) x) (sym front) bad.begins)
    (λ taken. no_log_begins (IsRunOf site) (text_of bad.before) (subst (λ (x : List ℕ). IsVersionThree x) front taken) bad.begins) t
front_resumed site begun other text line bytes said e (inr (inl behind)) three t =
    let goes = good_lines site behind.front behind.rest text line bytes behind.number behind.is_front behind.text_is behind.bad behind.line_is e in
    goes_is_resumed site other (take bytes text) goes.rest behind.front said behind.is_front goes.slots goes.text_is goes.begins t
front_resumed site begun other text line bytes said e (inr (inr otherwise)) three t =
    absurd (not_unopened e.before e.rest e.lines (omega (arith, e.place, three)) (subst (λ (x : List ℕ). IsUnopened x) e.parts otherwise.unopened))

pub fronts_are_resumed : FrontsAreResumed
fronts_are_resumed site begun other text line bytes said bad three t = front_resumed site begun other text line bytes said bad.0 bad.1 three t
