-- Whole lines without a percent sign, taken many at once.
use Rattle.std.proofs.Common.{◌≡◌, ◌≤◌, ◌<◌, ◌+◌, ◌-◌, ℕ, List, [], ◌∷◌, ◌++◌, length, take, drop, map, get_or, refl, sym, ap, ◌∙◌, arith, subst, append_assoc, Bool, true, false, cond, inl, inr, suc, zero, ◌==◌}
use Rattle.std.specs.Prelude.{slice_index}
use Rattle.std.specs.List.{AllByRecursion}
use Rattle.std.proofs.lemmas.Bool.{cases_Bool}
use Rattle.std.proofs.lemmas.List.{take_all, drop_all, take-append-drop, map-append, take_more}
use Rattle.std.proofs.KnownBytes.{Consumes-trans}
use Rattle.wh_text.specs.Lines.{put_in_front, cut_at, HasNone, is_line_feed, lines_of, without_cr, IsLine}
use Rattle.wh_lines.specs.Text.{is_separator, is_percent, EndsLine}
use Rattle.wh_lines.specs.Input.{Input, left, with_waiting, Takes}
use Rattle.wh_lines.specs.Section.{HasNoMark, Collects, Overflows}
use Rattle.wh_lines.proofs.Collecting.{NoMarks, marks_append}
use Rattle.wh_lines.proofs.Parts.{part_taken}

-- a text with a line feed at its end has a first line
starts : (text : List ℕ) → (line : List ℕ) × (lines : List (List ℕ)) × (cut_at is_line_feed (text ++ 10 ∷ []) ≡ line ∷ lines)
starts [] = ([], [], refl)
starts (b ∷ text) =
    let rest = starts text in
    elim (cases_Bool (is_line_feed b)) [
      | inl e ↦ ([], cut_at is_line_feed (text ++ 10 ∷ []), rw e refl)
      | inr e ↦ (b ∷ rest.0, rest.1, rw (e, rest.2) refl)
    ]

front_append : (b : ℕ) (parts more : List (List ℕ)) (line : List ℕ) (lines : List (List ℕ)) → parts ≡ line ∷ lines → put_in_front b (parts ++ more) ≡ put_in_front b parts ++ more
front_append b parts more line lines e = rw e refl

cut_feed : (text more : List ℕ) → cut_at is_line_feed ((text ++ 10 ∷ []) ++ more) ≡ cut_at is_line_feed (text ++ 10 ∷ []) ++ cut_at is_line_feed more
cut_feed [] more = refl
cut_feed (b ∷ text) more =
    let rest = cut_feed text more in
    let first = starts text in
    elim (cases_Bool (is_line_feed b)) [
      | inl e ↦ rw e (ap (λ (parts : List (List ℕ)). [] ∷ parts) rest)
      | inr e ↦ rw e (ap (put_in_front b) rest ∙ front_append b (cut_at is_line_feed (text ++ 10 ∷ [])) (cut_at is_line_feed more) first.0 first.1 first.2)
    ]

pub ends_feed : (text : List ℕ) → EndsLine (text ++ 10 ∷ [])
ends_feed text more = ap (map without_cr) (cut_feed text more) ∙ map-append without_cr (cut_at is_line_feed (text ++ 10 ∷ [])) (cut_at is_line_feed more)

-- up to a line feed
pub ends_at : (bytes : List ℕ) (n : ℕ) → n < length bytes → get_or bytes n 0 ≡ 10 → EndsLine (take (n + 1) bytes)
ends_at bytes n h feed = rw (take_more bytes n 0 h, feed) (ends_feed (take n bytes))

-- the lines of a text have no byte that the text has not
put_none : (b : ℕ) (parts : List (List ℕ)) → is_percent b ≡ false → AllByRecursion (HasNone is_percent) parts → AllByRecursion (HasNone is_percent) (put_in_front b parts)
put_none b [] e none = ((e, tt), tt)
put_none b (part ∷ parts) e none = ((e, none.0), none.1)

parts_none : (text : List ℕ) → HasNone is_percent text → AllByRecursion (HasNone is_percent) (cut_at is_line_feed text)
parts_none [] none = tt
parts_none (b ∷ text) none =
    let rest = parts_none text none.1 in
    elim (cases_Bool (is_line_feed b)) [
      | inl e ↦ rw e (tt, rest)
      | inr e ↦ rw e (put_none b (cut_at is_line_feed text) none.0 rest)
    ]

take_none : (n : ℕ) (line : List ℕ) → HasNone is_percent line → HasNone is_percent (take n line)
take_none zero line none = tt
take_none (suc n) [] none = tt
take_none (suc n) (b ∷ line) none = (none.0, take_none n line none.1)

trimmed_none : (line : List ℕ) (b : Bool) → HasNone is_percent line → HasNone is_percent (cond b (take (length line - 1) line) line)
trimmed_none line true none = take_none (length line - 1) line none
trimmed_none line false none = none

no_separator : (line : List ℕ) → HasNone is_percent line → is_separator line ≡ false
unfolding is_separator
no_separator [] none = refl
no_separator (b ∷ line) none = rw none.0 refl

pub unmarked_plain : (text : List ℕ) → HasNone is_percent text → HasNoMark text
unmarked_plain text none = lines (cut_at is_line_feed text) (parts_none text none)
  where
    lines : (parts : List (List ℕ)) → AllByRecursion (HasNone is_percent) parts → NoMarks (map without_cr parts)
    lines [] none = tt
    lines (part ∷ parts) none = (no_separator (without_cr part) (trimmed_none part (slice_index part (length part - 1) == 13) none.0), lines parts none.1)

pub take_plain : (n : ℕ) (text : List ℕ) → HasNone is_percent text → HasNone is_percent (take n text)
take_plain n text none = take_none n text none

-- one byte more
pub none_more : (text : List ℕ) (i : ℕ) → i < length text → HasNone is_percent (take i text) → is_percent (get_or text i 0) ≡ false → HasNone is_percent (take (i + 1) text)
none_more text i h none e = rw (take_more text i 0 h) (append (take i text) none)
  where
    append : (xs : List ℕ) → HasNone is_percent xs → HasNone is_percent (xs ++ get_or text i 0 ∷ [])
    append [] none = (e, tt)
    append (x ∷ xs) none = (none.0, append xs none.1)

-- whole lines that wait are moved to a text of whole lines
module _ (i j : Input) (text : List ℕ) (start n : ℕ) (f : Collects i j text start) (whole : length text ≤ start) (ends : EndsLine (take n j.waiting)) (unmarked : HasNoMark (take n j.waiting)) where
  abbrev part : List ℕ
  part = take n j.waiting

  abbrev has : List ℕ
  has = text ++ part

  abbrev after : Input
  after = with_waiting j (drop n j.waiting)

  ends_text : EndsLine text
  ends_text = subst EndsLine (take_all start text whole) f.ends

  taken : Takes i after has
  taken = Consumes-trans (left i) (left j) (left after) text part f.takes (part_taken j.waiting part (drop n j.waiting) j.source (sym (take-append-drop n j.waiting)))

  ends_has : EndsLine has
  ends_has more =
      ap lines_of (append_assoc text part more) ∙ ends_text (part ++ more) ∙ ap (λ l. lines_of text ++ l) (ends more)
      ∙ sym (append_assoc (lines_of text) (lines_of part) (lines_of more)) ∙ ap (λ l. l ++ lines_of more) (sym (ends_text part))

  unmarked_has : HasNoMark has
  unmarked_has = subst NoMarks (sym (ends_text part)) (marks_append (lines_of text) (lines_of part) (subst HasNoMark (take_all start text whole) f.unmarked) unmarked)

  pub collects_lines : Collects i after has (length has)
  collects_lines =
      let all = take_all (length has) has (omega arith) in
      record {
        takes = taken;
        ends = subst EndsLine (sym all) ends_has;
        plain = subst IsLine (sym (drop_all (length has) has (omega arith))) tt;
        unmarked = subst HasNoMark (sym all) unmarked_has;
      }

  pub overflows_lines : (limit : ℕ) → limit < length has → Overflows i after limit
  overflows_lines limit over = record { bytes = has; takes = taken; unmarked = unmarked_has; settled = inl ends_has; over = over }
