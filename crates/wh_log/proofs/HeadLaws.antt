-- The first two lines and the last: what is read is so written, and what is so written is read.
use Rattle.std.proofs.Common.{◌≡◌, ℕ, ◌<◌, ◌≤◌, ◌^◌, true, cond, ◌&&◌, List, [], ◌∷◌, map, length, Option, Some, None, Result, Ok, Err, codes, decimal, refl, sym, ap, ◌∙◌, subst, arith, lit<, lit≤}
use Rattle.std.specs.Prelude.{IfOk, IfSome, IfNone}
use Rattle.std.specs.Global.{Vec}
use Rattle.std.proofs.Math.Dec.{leb as nat_le}
use Rattle.std.proofs.lemmas.Bool.{leb-true, le-leb, and_parts}
use Rattle.std.proofs.lemmas.Option.{none-some}
use Rattle.std.specs.List.{AllByRecursion}
use Rattle.wh_text.specs.Lines.{IsLine}
use Rattle.wh_words.specs.Words.{IsPlain, words_of, line_of}
use Rattle.wh_words.specs.Numerals.{numeral_of}
use Rattle.wh_words.proofs.Cutting.{joined, split, line_is_line}
use Rattle.wh_words.proofs.NumeralLemmas.{numeral_found, numeral_again, plain-decimal}
use Rattle.wh_log.specs.declared.entry_fault.EntryFault.{EntryFault}
use Rattle.wh_log.specs.declared.entry_fault.EntryFault.TheVariants as faults
use Rattle.wh_event.specs.declared.entry.Entry.{Entry}
use Rattle.wh_log.specs.Spelling.{entry_line}
use Rattle.wh_log.specs.Ranges.{Keeps}
use Rattle.wh_log.specs.ReadReplies.{entry_of}
use Rattle.wh_log.proofs.EntryLaws.{line_again}
use Rattle.wh_log.specs.Reading.{◌>>=◌, Gives, literal_at, at_end, small_at, clock_at}
use Rattle.wh_log.proofs.Steps.{bind_some, some_is, guard_some, by_name, literal_found, end_found, small_found, clock_at_found, small_again, clock_at_again}
use Rattle.wh_log.specs.declared.version.Version.{Version}
use Rattle.wh_log.specs.declared.version.Version.TheVariants.{One, Two}
use Rattle.wh_log.specs.Logs.{head_line, start_line, end_line, IsSlots, Opens}
use Rattle.wh_log.specs.Places.{IsNoStart, IsNoEnd}
use Rattle.wh_log.specs.Heads.{version_of, slot_of, slots_of, few_of, start_of, end_of}

-- ---- the first line
pub version_found : (line : List ℕ) (version : Version) → version_of line ≡ Some version → line ≡ head_line version
version_found line version e =
    by_name (λ l. l ≡ head_line version) line (codes "wlog 1") _ _ version e (λ e. ap head_line (some_is One version e)) (λ e.
    by_name (λ l. l ≡ head_line version) line (codes "wlog 2") _ _ version e (λ e. ap head_line (some_is Two version e)) (λ e. absurd cc))

version_again : (version : Version) → version_of (head_line version) ≡ Some version
version_again One = refl
version_again Two = refl

pub version_none : (line : List ℕ) → version_of line ≡ None → (version : Version) → line ≡ head_line version → ⊥
version_none line none version is = none-some version (sym none ∙ ap version_of is ∙ version_again version)

pub one_version : (a b : Version) → head_line a ≡ head_line b → a ≡ b
one_version a b e = some_is a b (sym (version_again a) ∙ ap version_of e ∙ version_again b)

pub head_is_line : (version : Version) → IsLine (head_line version)
head_is_line One = (refl, (refl, (refl, (refl, (refl, (refl, tt))))))
head_is_line Two = (refl, (refl, (refl, (refl, (refl, (refl, tt))))))

-- ---- the second
slot_found : (word : List ℕ) (slot : ℕ) → slot_of word ≡ Some slot → (word ≡ decimal slot) × IsSlots slot
slot_found word slot e =
    let b = bind_some (numeral_of 9 word) (λ n. cond (nat_le 2 n && nat_le n 64) (Some n) None) slot e in
    let g = guard_some (nat_le 2 b.0 && nat_le b.0 64) b.0 slot b.2 in
    let both = and_parts (nat_le 2 b.0) (nat_le b.0 64) g.0 in
    let f = numeral_found 9 word b.0 (lit≤ tt) b.1 in
    subst (λ (m : ℕ). (word ≡ decimal m) × IsSlots m) g.1 (f.0, (leb-true _ _ both.0, leb-true _ _ both.1))

slot_again : (slot : ℕ) → IsSlots slot → slot_of (decimal slot) ≡ Some slot
slot_again slot h =
    let limit : 64 < 10 ^ 9 = lit< tt in
    let low : nat_le 2 slot ≡ true = le-leb _ _ h.0 in
    let high : nat_le slot 64 ≡ true = le-leb _ _ h.1 in
    rw (numeral_again 9 slot (lit< tt) (lit≤ tt) (omega (arith, h.1)), low, high) refl

slots_found : (words : List (List ℕ)) (slots : List ℕ) → slots_of words ≡ Some slots → (words ≡ map decimal slots) × AllByRecursion IsSlots slots
unfolding slots_of
slots_found [] slots e = subst (λ (s : List ℕ). ([] ≡ map decimal s) × AllByRecursion IsSlots s) (some_is [] slots e) (refl, tt)
slots_found (word ∷ words) slots e =
    let a = bind_some (slot_of word) (λ slot. slots_of words >>= λ slots. Some (slot ∷ slots)) slots e in
    let b = bind_some (slots_of words) (λ slots. Some (a.0 ∷ slots)) slots a.2 in
    let f = slot_found word a.0 a.1 in
    let rest = slots_found words b.0 b.1 in
    let whole : word ∷ words ≡ decimal a.0 ∷ map decimal b.0 = ap (λ (w : List ℕ). w ∷ words) f.0 ∙ ap (λ (ws : List (List ℕ)). decimal a.0 ∷ ws) rest.0 in
    subst (λ (s : List ℕ). (word ∷ words ≡ map decimal s) × AllByRecursion IsSlots s) (some_is (a.0 ∷ b.0) slots b.2) (whole, (f.1, rest.1))

slots_again : (slots : List ℕ) → AllByRecursion IsSlots slots → slots_of (map decimal slots) ≡ Some slots
unfolding slots_of
slots_again [] h = refl
slots_again (slot ∷ slots) h = rw (slot_again slot h.0, slots_again slots h.1) refl

slots_plain : (slots : List ℕ) → AllByRecursion IsSlots slots → AllByRecursion IsPlain (map decimal slots)
slots_plain [] h = tt
slots_plain (slot ∷ slots) h = let limit : 64 < 2 ^ 64 = lit< tt in (plain-decimal slot (omega (arith, h.0.1)), slots_plain slots h.1)

abbrev start_words : ℕ → List ℕ → List (List ℕ)
start_words clock slots = codes "start" ∷ decimal clock ∷ codes "slots" ∷ map decimal slots

record IsStart (words : List (List ℕ)) (y : ℕ × List ℕ) : Type 0 where
  words_are : words ≡ start_words y.0 y.1
  opens : Opens y.0 y.1

start_found : (words : List (List ℕ)) (y : ℕ × List ℕ) → start_of words ≡ Some y → IsStart words y
unfolding start_of
start_found words y e =
    let a = bind_some (literal_at (codes "start") words) (λ r. clock_at r >>= λ clock. literal_at (codes "slots") clock.1 >>= λ s. slots_of s >>= λ all. few_of all >>= λ slots. Some (clock.0, slots)) y e in
    let b = bind_some (clock_at a.0) (λ clock. literal_at (codes "slots") clock.1 >>= λ s. slots_of s >>= λ all. few_of all >>= λ slots. Some (clock.0, slots)) y a.2 in
    let d = bind_some (literal_at (codes "slots") b.0.1) (λ s. slots_of s >>= λ all. few_of all >>= λ slots. Some (b.0.0, slots)) y b.2 in
    let f = bind_some (slots_of d.0) (λ all. few_of all >>= λ slots. Some (b.0.0, slots)) y d.2 in
    let g = bind_some (few_of f.0) (λ slots. Some (b.0.0, slots)) y f.2 in
    let clock = clock_at_found a.0 b.0 b.1 in
    let slots = slots_found d.0 f.0 f.1 in
    let few = guard_some (nat_le 1 (length f.0) && nat_le (length f.0) 256) f.0 g.0 g.1 in
    let sizes = and_parts (nat_le 1 (length f.0)) (nat_le (length f.0) 256) few.0 in
    let whole : words ≡ start_words b.0.0 f.0 =
    literal_found (codes "start") words a.0 a.1 ∙ ap (λ (ws : List (List ℕ)). codes "start" ∷ ws) (clock.0 ∙ ap (λ (ws : List (List ℕ)). decimal b.0.0 ∷ ws) (literal_found (codes "slots") b.0.1 d.0 d.1 ∙ ap (λ (ws : List (List ℕ)). codes "slots" ∷ ws) slots.0)) in
    let first : IsStart words (b.0.0, f.0) = record { words_are = whole; opens = record { clock_fits = clock.1; some = leb-true _ _ sizes.0; few = leb-true _ _ sizes.1; each = slots.1 } } in
    let second : IsStart words (b.0.0, g.0) = subst (λ (s : List ℕ). IsStart words (b.0.0, s)) few.1 first in
    subst (IsStart words) (some_is (b.0.0, g.0) y g.2) second

start_again : (clock : ℕ) (slots : List ℕ) → Opens clock slots → start_of (start_words clock slots) ≡ Some (clock, slots)
unfolding start_of
start_again clock slots h =
    let some : nat_le 1 (length slots) ≡ true = le-leb _ _ h.some in
    let few : nat_le (length slots) 256 ≡ true = le-leb _ _ h.few in
    rw (clock_at_again clock (codes "slots" ∷ map decimal slots) h.clock_fits, slots_again slots h.each, some, few) refl

start_plain : (clock : ℕ) (slots : List ℕ) → Opens clock slots → AllByRecursion IsPlain (start_words clock slots)
start_plain clock slots h = let limit : 1000000000 < 2 ^ 64 = lit< tt in (refl, (plain-decimal clock (omega (arith, h.clock_fits)), (refl, slots_plain slots h.each)))

pub start_line_found : (line : List ℕ) (clock : ℕ) (slots : List ℕ) → start_of (words_of line) ≡ Some (clock, slots) → (line ≡ start_line clock slots) × Opens clock slots
start_line_found line clock slots e = let f = start_found (words_of line) (clock, slots) e in (sym (joined line) ∙ ap line_of f.words_are, f.opens)

pub start_line_again : (clock : ℕ) (slots : List ℕ) → Opens clock slots → start_of (words_of (start_line clock slots)) ≡ Some (clock, slots)
start_line_again clock slots h = ap start_of (split (start_words clock slots) (omega arith) (start_plain clock slots h)) ∙ start_again clock slots h

pub start_is_line : (clock : ℕ) (slots : List ℕ) → Opens clock slots → IsLine (start_line clock slots)
start_is_line clock slots h = line_is_line (start_words clock slots) (start_plain clock slots h)

pub start_none : (line : List ℕ) → start_of (words_of line) ≡ None → (clock : ℕ) (slots : List ℕ) → Opens clock slots → line ≡ start_line clock slots → ⊥
start_none line none clock slots h is = none-some (clock, slots) (sym none ∙ ap (λ (l : List ℕ). start_of (words_of l)) is ∙ start_line_again clock slots h)

pub one_start : (a b : ℕ) (xs ys : List ℕ) → Opens a xs → Opens b ys → start_line a xs ≡ start_line b ys → (a ≡ b) × (xs ≡ ys)
one_start a b xs ys h k e =
    let same : Some (a, xs) ≡ Some (b, ys) = sym (start_line_again a xs h) ∙ ap (λ (l : List ℕ). start_of (words_of l)) e ∙ start_line_again b ys k in
    let pair = some_is (a, xs) (b, ys) same in
    (ap (λ p. p.0) pair, ap (λ p. p.1) pair)

-- ---- the last
abbrev end_words : ℕ → List (List ℕ)
end_words count = codes "end" ∷ decimal count ∷ []

end_plain : (count : ℕ) → count < 10 ^ 9 → AllByRecursion IsPlain (end_words count)
end_plain count h = let limit : 10 ^ 9 ≤ 2 ^ 64 = lit≤ tt in (refl, (plain-decimal count (omega arith), tt))

end_words_found : (words : List (List ℕ)) (count : ℕ) → end_of words ≡ Some count → (words ≡ end_words count) × (count < 10 ^ 9)
unfolding end_of
end_words_found words count e =
    let a = bind_some (literal_at (codes "end") words) (λ r. small_at r >>= λ n. at_end n.1 n.0) count e in
    let b = bind_some (small_at a.0) (λ n. at_end n.1 n.0) count a.2 in
    let n = small_found a.0 b.0 b.1 in
    let d = end_found b.0.1 b.0.0 count b.2 in
    let whole : words ≡ end_words b.0.0 = literal_found (codes "end") words a.0 a.1 ∙ ap (λ (ws : List (List ℕ)). codes "end" ∷ ws) (n.0 ∙ ap (λ (ws : List (List ℕ)). decimal b.0.0 ∷ ws) d.0) in
    subst (λ (k : ℕ). (words ≡ end_words k) × (k < 10 ^ 9)) d.1 (whole, n.1)

end_words_again : (count : ℕ) → count < 10 ^ 9 → end_of (end_words count) ≡ Some count
unfolding end_of
end_words_again count h = rw (small_again count h) refl

pub end_line_found : (line : List ℕ) (count : ℕ) → end_of (words_of line) ≡ Some count → (line ≡ end_line count) × (count < 10 ^ 9)
end_line_found line count e = let f = end_words_found (words_of line) count e in (sym (joined line) ∙ ap line_of f.0, f.1)

pub end_line_again : (count : ℕ) → count < 10 ^ 9 → end_of (words_of (end_line count)) ≡ Some count
end_line_again count h = ap end_of (split (end_words count) (omega arith) (end_plain count h)) ∙ end_words_again count h

pub end_is_line : (count : ℕ) → count < 10 ^ 9 → IsLine (end_line count)
end_is_line count h = line_is_line (end_words count) (end_plain count h)

pub end_none : (line : List ℕ) → end_of (words_of line) ≡ None → (count : ℕ) → count < 10 ^ 9 → line ≡ end_line count → ⊥
end_none line none count h is = none-some count (sym none ∙ ap (λ (l : List ℕ). end_of (words_of l)) is ∙ end_line_again count h)

pub one_end : (a b : ℕ) → a < 10 ^ 9 → b < 10 ^ 9 → end_line a ≡ end_line b → a ≡ b
one_end a b h k e = some_is a b (sym (end_line_again a h) ∙ ap (λ (l : List ℕ). end_of (words_of l)) e ∙ end_line_again b k)

-- ---- what the readers of these lines returned
pub start_result_found : (line : List ℕ) (result : Result (ℕ × Vec ℕ) EntryFault) → Gives (λ start. (start.0, start.1.items)) result (start_of (words_of line)) → IfOk result (λ start. (line ≡ start_line start.0 start.1.items) × Opens start.0 start.1.items)
start_result_found line (Ok start) h = start_line_found line start.0 start.1.items h
start_result_found line (Err e) h = tt

pub start_result_form : (line : List ℕ) (result : Result (ℕ × Vec ℕ) EntryFault) → Gives (λ start. (start.0, start.1.items)) result (start_of (words_of line)) → result ≡ Err faults.Form → IsNoStart line
start_result_form line result h is = start_none line (subst (λ (r : Result (ℕ × Vec ℕ) EntryFault). Gives (λ start. (start.0, start.1.items)) r (start_of (words_of line))) is h)

pub end_result_found : (line : List ℕ) (result : Option ℕ) → result ≡ end_of (words_of line) → IfSome result (λ count. (line ≡ end_line count) × (count < 10 ^ 9))
end_result_found line (Some count) h = end_line_found line count (sym h)
end_result_found line None h = tt

pub end_result_none : (line : List ℕ) (result : Option ℕ) → result ≡ end_of (words_of line) → IfNone result (IsNoEnd line)
end_result_none line (Some count) h = tt
end_result_none line None h = end_none line (sym h)

-- an end line is no entry's
pub end_differs : (most count : ℕ) (entry : Entry) → count < 10 ^ 9 → Keeps most entry → end_line count ≡ entry_line entry → ⊥
unfolding entry_of
end_differs most count entry h keeps is =
    let none : entry_of most (words_of (end_line count)) ≡ None = ap (entry_of most) (split (end_words count) (omega arith) (end_plain count h)) in
    none-some entry (sym none ∙ ap (λ (l : List ℕ). entry_of most (words_of l)) is ∙ line_again most entry keeps)
