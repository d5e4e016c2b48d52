-- Words: what is read is so written, and what is so written is read.
use Rattle.std.proofs.Common.{◌≡◌, ℕ, suc, ◌<◌, ◌≤◌, ◌^◌, ◌+◌, Bool, true, List, [], ◌∷◌, ◌++◌, map, length, take, drop, Option, Some, decimal, refl, ap, ◌∙◌, subst, arith, lit<, lit≤, length-append}
use Rattle.std.proofs.Math.Dec.{ltb as nat_lt, leb as nat_le}
use Rattle.std.proofs.lemmas.Bool.{ltb-true, lt-ltb, leb-true, le-leb, ne_eqb, and_parts, and_from}
use Rattle.std.proofs.lemmas.List.{take_at}
use Rattle.std.specs.List.{AllByRecursion, list_all, position, position_or_len}
use Rattle.wh_text.specs.Lines.{HasNone}
use Rattle.wh_text.specs.Numbers.{is_digit}
use Rattle.wh_words.specs.Words.{is_plain, IsPlain}
use Rattle.wh_words.specs.Numerals.{numeral_of, wide_numeral_of}
use Rattle.wh_words.proofs.NumeralLemmas.{numeral_found, numeral_again, wide_found, wide_again, decimal_digits, plain-decimal}
use Rattle.wh_words.proofs.Cutting.{split_around}
use Rattle.wh_grid.specs.declared.cell.Cell.{Cell}
use Rattle.wh_log.specs.Reading.{◌>>=◌, first_at}
use Rattle.wh_log.specs.Ranges.{IsClock}
use Rattle.wh_log.specs.Spelling.{cell_word}
use Rattle.wh_log.proofs.Steps.{bind_some, guard_some, some_is}
use Rattle.wh_front.specs.declared.front.Count.{Count}
use Rattle.wh_front.specs.Spelling.{count_word}
use Rattle.wh_front.specs.Ranges.{CellFits, CountFits, AreRising, CountsFit}
use Rattle.wh_front.specs.Reading.{if_so, is_byte, halves_of, coordinate_of, cell_of, cells_of, slots_of, caller_of, entries_of, count_of, next_count_of, counts_of}

pub after : (name : List ℕ) (words others : List (List ℕ)) → words ≡ others → name ∷ words ≡ name ∷ others
after name words others e = ap (λ (ws : List (List ℕ)). name ∷ ws) e

pub first_found : {A : Type 0} (read : List ℕ → Option A) (words : List (List ℕ)) (y : A × List (List ℕ)) → first_at read words ≡ Some y → (word : List ℕ) × (words ≡ word ∷ y.1) × (read word ≡ Some y.0)
first_found read [] y e = absurd cc
first_found read (word ∷ words) y e =
    let b = bind_some (read word) (λ x. Some (x, words)) y e in
    let same = some_is (b.0, words) y b.2 in
    (word, ap (λ p. word ∷ p.1) same, b.1 ∙ ap (λ p. Some p.0) same)

-- ---- numbers
coordinate_found : (word : List ℕ) (n : ℕ) → coordinate_of word ≡ Some n → (word ≡ decimal n) × (n < 65536)
coordinate_found word n e =
    let b = bind_some (numeral_of 5 word) (λ n. if_so (nat_lt n 65536) n) n e in
    let g = guard_some (nat_lt b.0 65536) b.0 n b.2 in
    let f = numeral_found 5 word b.0 (lit≤ tt) b.1 in
    subst (λ (m : ℕ). (word ≡ decimal m) × (m < 65536)) g.1 (f.0, ltb-true _ _ g.0)

coordinate_again : (n : ℕ) → n < 65536 → coordinate_of (decimal n) ≡ Some n
coordinate_again n h =
    let limit : 65536 < 10 ^ 5 = lit< tt in
    let small : nat_lt n 65536 ≡ true = lt-ltb _ _ h in
    rw (numeral_again 5 n (lit< tt) (lit≤ tt) (omega arith), small) refl

slots_found : (word : List ℕ) (n : ℕ) → slots_of word ≡ Some n → (word ≡ decimal n) × (n < 2 ^ 32)
slots_found word n e =
    let b = bind_some (numeral_of 10 word) (λ n. if_so (nat_lt n (2 ^ 32)) n) n e in
    let g = guard_some (nat_lt b.0 (2 ^ 32)) b.0 n b.2 in
    let f = numeral_found 10 word b.0 (lit≤ tt) b.1 in
    subst (λ (m : ℕ). (word ≡ decimal m) × (m < 2 ^ 32)) g.1 (f.0, ltb-true _ _ g.0)

pub slots_again : (n : ℕ) → n < 2 ^ 32 → slots_of (decimal n) ≡ Some n
slots_again n h =
    let limit : 2 ^ 32 < 10 ^ 10 = lit< tt in
    let small : nat_lt n (2 ^ 32) ≡ true = lt-ltb _ _ h in
    rw (numeral_again 10 n (lit< tt) (lit≤ tt) (omega arith), small) refl

caller_found : (word : List ℕ) (n : ℕ) → caller_of word ≡ Some n → (word ≡ decimal n) × (n < 64)
caller_found word n e =
    let b = bind_some (numeral_of 9 word) (λ n. if_so (nat_lt n 64) n) n e in
    let g = guard_some (nat_lt b.0 64) b.0 n b.2 in
    let f = numeral_found 9 word b.0 (lit≤ tt) b.1 in
    subst (λ (m : ℕ). (word ≡ decimal m) × (m < 64)) g.1 (f.0, ltb-true _ _ g.0)

pub caller_again : (n : ℕ) → n < 64 → caller_of (decimal n) ≡ Some n
caller_again n h =
    let limit : 64 < 10 ^ 9 = lit< tt in
    let small : nat_lt n 64 ≡ true = lt-ltb _ _ h in
    rw (numeral_again 9 n (lit< tt) (lit≤ tt) (omega arith), small) refl

entries_found : (word : List ℕ) (n : ℕ) → entries_of word ≡ Some n → (word ≡ decimal n) × (1 ≤ n) × (n < 2 ^ 64)
entries_found word n e =
    let b = bind_some (wide_numeral_of word) (λ n. if_so (nat_le 1 n) n) n e in
    let g = guard_some (nat_le 1 b.0) b.0 n b.2 in
    let f = wide_found word b.0 b.1 in
    subst (λ (m : ℕ). (word ≡ decimal m) × (1 ≤ m) × (m < 2 ^ 64)) g.1 (f.0, leb-true _ _ g.0, f.1)

entries_again : (n : ℕ) → 1 ≤ n → n < 2 ^ 64 → entries_of (decimal n) ≡ Some n
entries_again n one h =
    let some : nat_le 1 n ≡ true = le-leb _ _ one in
    rw (wide_again n h, some) refl

pub slots_at_found : (words : List (List ℕ)) (y : ℕ × List (List ℕ)) → first_at slots_of words ≡ Some y → (words ≡ decimal y.0 ∷ y.1) × (y.0 < 2 ^ 32)
slots_at_found words y e =
    let f = first_found slots_of words y e in
    let n = slots_found f.0 y.0 f.2 in
    (f.1 ∙ ap (λ w. w ∷ y.1) n.0, n.1)

pub caller_at_found : (words : List (List ℕ)) (y : ℕ × List (List ℕ)) → first_at caller_of words ≡ Some y → (words ≡ decimal y.0 ∷ y.1) × (y.0 < 64)
caller_at_found words y e =
    let f = first_found caller_of words y e in
    let n = caller_found f.0 y.0 f.2 in
    (f.1 ∙ ap (λ w. w ∷ y.1) n.0, n.1)

-- ---- words of two halves
halves_found : (byte : ℕ) (word : List ℕ) (y : List ℕ × List ℕ) → halves_of byte word ≡ Some y → word ≡ y.0 ++ byte ∷ y.1
unfolding halves_of
halves_found byte word y e =
    let b = bind_some (position (is_byte byte) word) (λ i. Some (take i word, drop (i + 1) word)) y e in
    let parts : word ≡ take b.0 word ++ byte ∷ drop (b.0 + 1) word = split_around byte word b.0 b.1 in
    subst (λ (z : List ℕ × List ℕ). word ≡ z.0 ++ byte ∷ z.1) (some_is (take b.0 word, drop (b.0 + 1) word) y b.2) parts

position_past : (p : ℕ → Bool) (xs ys : List ℕ) (b : ℕ) → HasNone p xs → p b ≡ true → position_or_len p (xs ++ b ∷ ys) ≡ length xs
position_past p [] ys b none is = rw is refl
position_past p (x ∷ xs) ys b none is = rw (none.0, position_past p xs ys b none.1 is) (omega arith)

position_is : (p : ℕ → Bool) (xs ys : List ℕ) (b : ℕ) → HasNone p xs → p b ≡ true → position p (xs ++ b ∷ ys) ≡ Some (length xs)
position_is p xs ys b none is =
    let at = position_past p xs ys b none is in
    let inside : nat_lt (length xs) (length (xs ++ b ∷ ys)) ≡ true = lt-ltb _ _ (simp length-append (omega arith)) in
    rw (at, inside) refl

drop_past : (xs ys : List ℕ) (b : ℕ) → drop (length xs + 1) (xs ++ b ∷ ys) ≡ ys
drop_past [] ys b = refl
drop_past (x ∷ xs) ys b = let one : suc (length xs) + 1 ≡ suc (length xs + 1) = omega arith in rw one (drop_past xs ys b)

halves_again : (byte : ℕ) (xs ys : List ℕ) → HasNone (is_byte byte) xs → is_byte byte byte ≡ true → halves_of byte (xs ++ byte ∷ ys) ≡ Some (xs, ys)
unfolding halves_of
halves_again byte xs ys none is =
    rw (position_is (is_byte byte) xs ys byte none is, take_at xs (byte ∷ ys) (length xs) refl, drop_past xs ys byte) refl

-- digits are no such bytes
no_byte : (byte : ℕ) → ((d : ℕ) → 48 ≤ d → d ≤ 57 → d ≡ byte → ⊥) → (ds : List ℕ) → list_all is_digit ds ≡ true → HasNone (is_byte byte) ds
no_byte byte other [] h = tt
no_byte byte other (d ∷ ds) h =
    let b = and_parts (is_digit d) (list_all is_digit ds) h in
    let both = and_parts (nat_le 48 d) (nat_le d 57) b.0 in
    (ne_eqb d byte (other d (leb-true _ _ both.0) (leb-true _ _ both.1)), no_byte byte other ds b.1)

cell_found : (word : List ℕ) (cell : Cell) → cell_of word ≡ Some cell → (word ≡ cell_word cell) × CellFits cell
unfolding cell_of
cell_found word cell e =
    let a = bind_some (halves_of 44 word) (λ halves. coordinate_of halves.0 >>= λ x. coordinate_of halves.1 >>= λ y. Some (record { x = x; y = y })) cell e in
    let b = bind_some (coordinate_of a.0.0) (λ x. coordinate_of a.0.1 >>= λ y. Some (record { x = x; y = y })) cell a.2 in
    let c = bind_some (coordinate_of a.0.1) (λ y. Some (record { x = b.0; y = y })) cell b.2 in
    let x = coordinate_found a.0.0 b.0 b.1 in
    let y = coordinate_found a.0.1 c.0 c.1 in
    let made : Cell = record { x = b.0; y = c.0 } in
    let whole : word ≡ cell_word made = halves_found 44 word a.0 a.1 ∙ ap (λ (t : List ℕ). t ++ 44 ∷ a.0.1) x.0 ∙ ap (λ (t : List ℕ). decimal b.0 ++ 44 ∷ t) y.0 in
    subst (λ (d : Cell). (word ≡ cell_word d) × CellFits d) (some_is made cell c.2) (whole, (x.1, y.1))

cell_again : (cell : Cell) → CellFits cell → cell_of (cell_word cell) ≡ Some cell
unfolding cell_of
cell_again cell h =
    let limit : 65536 < 2 ^ 64 = lit< tt in
    let digits = decimal_digits cell.x (omega (arith, h.0)) in
    rw (halves_again 44 (decimal cell.x) (decimal cell.y) (no_byte 44 (λ d low high e. absurd (omega arith)) (decimal cell.x) digits) refl, coordinate_again cell.x h.0, coordinate_again cell.y h.1) refl

count_found : (word : List ℕ) (count : Count) → count_of word ≡ Some count → (word ≡ count_word count) × CountFits count
unfolding count_of
count_found word count e =
    let a = bind_some (halves_of 58 word) (λ halves. caller_of halves.0 >>= λ caller. entries_of halves.1 >>= λ entries. Some (record { caller = caller; entries = entries })) count e in
    let b = bind_some (caller_of a.0.0) (λ caller. entries_of a.0.1 >>= λ entries. Some (record { caller = caller; entries = entries })) count a.2 in
    let c = bind_some (entries_of a.0.1) (λ entries. Some (record { caller = b.0; entries = entries })) count b.2 in
    let x = caller_found a.0.0 b.0 b.1 in
    let y = entries_found a.0.1 c.0 c.1 in
    let made : Count = record { caller = b.0; entries = c.0 } in
    let whole : word ≡ count_word made = halves_found 58 word a.0 a.1 ∙ ap (λ (t : List ℕ). t ++ 58 ∷ a.0.1) x.0 ∙ ap (λ (t : List ℕ). decimal b.0 ++ 58 ∷ t) y.0 in
    let fits : CountFits made = record { caller = x.1; some = y.1; few = y.2 } in
    subst (λ (d : Count). (word ≡ count_word d) × CountFits d) (some_is made count c.2) (whole, fits)

count_again : (count : Count) → CountFits count → count_of (count_word count) ≡ Some count
unfolding count_of
count_again count h =
    let limit : 64 < 2 ^ 64 = lit< tt in
    let digits = decimal_digits count.caller (omega (arith, h.caller)) in
    rw (halves_again 58 (decimal count.caller) (decimal count.entries) (no_byte 58 (λ d low high e. absurd (omega arith)) (decimal count.caller) digits) refl, caller_again count.caller h.caller, entries_again count.entries h.some h.few) refl

-- ---- lists of them
pub cells_found : (words : List (List ℕ)) (cells : List Cell) → cells_of words ≡ Some cells → (words ≡ map cell_word cells) × AllByRecursion CellFits cells
unfolding cells_of
cells_found [] cells e = subst (λ (s : List Cell). ([] ≡ map cell_word s) × AllByRecursion CellFits s) (some_is [] cells e) (refl, tt)
cells_found (word ∷ words) cells e =
    let a = bind_some (cell_of word) (λ cell. cells_of words >>= λ cells. Some (cell ∷ cells)) cells e in
    let b = bind_some (cells_of words) (λ cells. Some (a.0 ∷ cells)) cells a.2 in
    let f = cell_found word a.0 a.1 in
    let rest = cells_found words b.0 b.1 in
    let whole : word ∷ words ≡ cell_word a.0 ∷ map cell_word b.0 = ap (λ (w : List ℕ). w ∷ words) f.0 ∙ ap (λ (ws : List (List ℕ)). cell_word a.0 ∷ ws) rest.0 in
    subst (λ (s : List Cell). (word ∷ words ≡ map cell_word s) × AllByRecursion CellFits s) (some_is (a.0 ∷ b.0) cells b.2) (whole, (f.1, rest.1))

pub cells_again : (cells : List Cell) → AllByRecursion CellFits cells → cells_of (map cell_word cells) ≡ Some cells
unfolding cells_of
cells_again [] h = refl
cells_again (cell ∷ cells) h = rw (cell_again cell h.0, cells_again cells h.1) refl

-- callers from the least one on, each greater than the one before
From : ℕ → List Count → Type 0
From least [] = Unit {0}
From least (count ∷ counts) = (least ≤ count.caller) × From (count.caller + 1) counts

counts_found_from : (least : ℕ) (words : List (List ℕ)) (counts : List Count) → counts_of least words ≡ Some counts → (words ≡ map count_word counts) × AllByRecursion CountFits counts × From least counts
unfolding counts_of From
counts_found_from least [] counts e = subst (λ (s : List Count). ([] ≡ map count_word s) × AllByRecursion CountFits s × From least s) (some_is [] counts e) (refl, tt, tt)
counts_found_from least (word ∷ words) counts e =
    let a = bind_some (next_count_of least word) (λ count. counts_of (count.caller + 1) words >>= λ counts. Some (count ∷ counts)) counts e in
    let b = bind_some (counts_of (a.0.caller + 1) words) (λ counts. Some (a.0 ∷ counts)) counts a.2 in
    let c = bind_some (count_of word) (λ count. if_so (nat_le least count.caller) count) a.0 a.1 in
    let g = guard_some (nat_le least c.0.caller) c.0 a.0 c.2 in
    let is : count_of word ≡ Some a.0 = c.1 ∙ ap (λ (x : Count). Some x) g.1 in
    let low : least ≤ a.0.caller = subst (λ (x : Count). least ≤ x.caller) g.1 (leb-true _ _ g.0) in
    let f = count_found word a.0 is in
    let rest = counts_found_from (a.0.caller + 1) words b.0 b.1 in
    let whole : word ∷ words ≡ count_word a.0 ∷ map count_word b.0 = ap (λ (w : List ℕ). w ∷ words) f.0 ∙ ap (λ (ws : List (List ℕ)). count_word a.0 ∷ ws) rest.0 in
    subst (λ (s : List Count). (word ∷ words ≡ map count_word s) × AllByRecursion CountFits s × From least s) (some_is (a.0 ∷ b.0) counts b.2) (whole, (f.1, rest.1), (low, rest.2))

counts_again_from : (least : ℕ) (counts : List Count) → AllByRecursion CountFits counts → From least counts → counts_of least (map count_word counts) ≡ Some counts
unfolding counts_of From
counts_again_from least [] h k = refl
counts_again_from least (count ∷ counts) h k =
    let low : nat_le least count.caller ≡ true = le-leb _ _ k.0 in
    rw (count_again count h.0, low, counts_again_from (count.caller + 1) counts h.1 k.1) refl

rising : (count : Count) (counts : List Count) → From (count.caller + 1) counts → AreRising (count ∷ counts)
unfolding From
rising count [] k = tt
rising count (next ∷ counts) k = (omega (arith, k.0), rising next counts k.1)

from_rising : (count : Count) (counts : List Count) → AreRising (count ∷ counts) → From (count.caller + 1) counts
unfolding From
from_rising count [] k = tt
from_rising count (next ∷ counts) k = (omega (arith, k.0), from_rising next counts k.1)

pub counts_found : (words : List (List ℕ)) (counts : List Count) → counts_of 0 words ≡ Some counts → (words ≡ map count_word counts) × CountsFit counts
unfolding From
counts_found words counts e = let f = counts_found_from 0 words counts e in (f.0, (f.1, all counts f.2))
  where
    all : (counts : List Count) → From 0 counts → AreRising counts
    all [] k = tt
    all (count ∷ counts) k = rising count counts k.1

pub counts_again : (counts : List Count) → CountsFit counts → counts_of 0 (map count_word counts) ≡ Some counts
unfolding From
counts_again counts h = counts_again_from 0 counts h.0 (all counts h.1)
  where
    all : (counts : List Count) → AreRising counts → From 0 counts
    all [] k = tt
    all (count ∷ counts) k = (omega arith, from_rising count counts k)

-- ---- no space and no line feed stands in them
plain-append : (xs ys : List ℕ) → IsPlain xs → IsPlain ys → IsPlain (xs ++ ys)
plain-append [] ys p q = q
plain-append (x ∷ xs) ys p q = let b = and_parts (is_plain x) (list_all is_plain xs) p in and_from (is_plain x) (list_all is_plain (xs ++ ys)) b.0 (plain-append xs ys b.1 q)

pub plain_words : (xs ys : List (List ℕ)) → AllByRecursion IsPlain xs → AllByRecursion IsPlain ys → AllByRecursion IsPlain (xs ++ ys)
plain_words [] ys p q = q
plain_words (x ∷ xs) ys p q = (p.0, plain_words xs ys p.1 q)

pub cells_plain : (cells : List Cell) → AllByRecursion CellFits cells → AllByRecursion IsPlain (map cell_word cells)
cells_plain [] h = tt
cells_plain (cell ∷ cells) h =
    let limit : 65536 < 2 ^ 64 = lit< tt in
    (plain-append (decimal cell.x) (44 ∷ decimal cell.y) (plain-decimal cell.x (omega (arith, h.0.0))) (plain-decimal cell.y (omega (arith, h.0.1))), cells_plain cells h.1)

pub counts_plain : (counts : List Count) → AllByRecursion CountFits counts → AllByRecursion IsPlain (map count_word counts)
counts_plain [] h = tt
counts_plain (count ∷ counts) h =
    let limit : 64 < 2 ^ 64 = lit< tt in
    (plain-append (decimal count.caller) (58 ∷ decimal count.entries) (plain-decimal count.caller (omega (arith, h.0.caller))) (plain-decimal count.entries h.0.few), counts_plain counts h.1)

pub small_plain : (n : ℕ) → n < 10 ^ 9 → IsPlain (decimal n)
small_plain n h = let limit : 10 ^ 9 < 2 ^ 64 = lit< tt in plain-decimal n (omega arith)

pub clock_plain : (n : ℕ) → IsClock n → IsPlain (decimal n)
clock_plain n h = let limit : 1000000000 < 2 ^ 64 = lit< tt in plain-decimal n (omega (arith, h))
