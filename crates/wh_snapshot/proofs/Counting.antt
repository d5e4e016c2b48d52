-- counting entries
use Rattle.std.proofs.Common.{◌≡◌, ℕ, ◌+◌, ◌<◌, ◌≤◌, ◌^◌, ◌∙◌, ◌==◌, Bool, true, false, List, [], ◌∷◌, ◌++◌, length, take, map, get_or, cond, nat_lt, sym, ap, subst, refl, arith}
use Prim.Native.Nat.{zero, suc}
use Rattle.std.specs.Prelude.{filter, Result, Ok, Err, IfOk}
use Rattle.std.specs.List.{AllByRecursion, range_with_len}
use Rattle.std.proofs.lemmas.Bool.{ltb-true}
use Rattle.std.proofs.lemmas.List.Sums.{sum_by_more_le_part, sum_by-le-sum_by, count_by-le-length}
use Rattle.std.proofs.lemmas.List.FromFn.{filter_of_map_range_with_len_more}
use Rattle.wh_event.specs.declared.entry.Entry.{Entry}
use Rattle.wh_front.specs.declared.front.Count.{Count}
use Rattle.wh_front.specs.Ranges.{CountFits, CountsFit, AreRising}
use Rattle.wh_snapshot.specs.Snapshots.{entries_of, entries_told, counts_told, all_told, CanCount}

-- a tally tells so many entries of each caller
abbrev pub Tells : List ℕ → (ℕ → ℕ) → Type 0
Tells tally entries = (k : ℕ) → k < 64 → get_or tally k 0 ≡ entries k

part_le : (is : Bool) (n : ℕ) → cond is n 0 ≤ n
part_le true n = omega arith
part_le false n = omega arith

-- ---- those told before
abbrev part : ℕ → Count → ℕ
part k count = cond (count.caller == k) count.entries 0

part_le_all : (k : ℕ) (count : Count) → part k count ≤ count.entries
part_le_all k count = part_le (count.caller == k) count.entries

pub told_room : (had : List Count) (i : ℕ) (d : Count) (tally : List ℕ) → i < length had → Tells tally (λ k. entries_told k (take i had)) → all_told had < 2 ^ 64 →
    (get_or had i d).caller < 64 → get_or tally (get_or had i d).caller 0 + (get_or had i d).entries < 2 ^ 64
told_room had i d tally below tells room small =
    let k : ℕ = (get_or had i d).caller in
    let fits : entries_told k (take i had) + (get_or had i d).entries ≤ all_told had = sum_by_more_le_part (part k) (λ (c : Count). c.entries) had i d below (part_le_all k) in
    let t : get_or tally k 0 ≡ entries_told k (take i had) = tells k small in
    omega (arith, fits, t, room)

pub told_le_all : (k : ℕ) (had : List Count) → entries_told k had ≤ all_told had
told_le_all k had = sum_by-le-sum_by (part k) (λ (c : Count). c.entries) had (part_le_all k)

-- ---- those of the history
pub first_room : (had : List Count) (history : List Entry) (tally : List ℕ) → CanCount had history → Tells tally (λ k. entries_told k had) →
    (k : ℕ) → k < 64 → get_or tally k 0 + length history < 2 ^ 64
first_room had history tally can tells k small =
    let t = tells k small in
    let most = told_le_all k had in
    omega (arith, can, t, most)

-- what follows from what a function gives, where it gives it
pub if_ok_map : {X E : Type 0} (P Q : X → Type 0) (result : Result X E) → ((x : X) → P x → Q x) → IfOk result P → IfOk result Q
if_ok_map P Q (Ok x) follows holds = follows x holds
if_ok_map P Q (Err e) follows holds = tt

-- ---- the rows
abbrev some : Count → Bool
some count = nat_lt 0 count.entries

abbrev count_at : (ℕ → ℕ) → ℕ → Count
count_at entries k = record { caller = k; entries = entries k }

-- those of the first callers
abbrev pub counted_to : (ℕ → ℕ) → ℕ → List Count
counted_to entries n = filter some (map (count_at entries) (range_with_len 0 n))

pub rows_go : (tally : List ℕ) (k : ℕ) (before after : List Count) → k < 64 → ((entries : ℕ → ℕ) → Tells tally entries → before ≡ counted_to entries k) →
    after ≡ before ++ cond (nat_lt 0 (get_or tally k 0)) (record { caller = k; entries = get_or tally k 0 } ∷ []) [] → (entries : ℕ → ℕ) → Tells tally entries → after ≡ counted_to entries (k + 1)
rows_go tally k before after small so_far more entries tells =
    more ∙ ap (λ rows. rows ++ cond (nat_lt 0 (get_or tally k 0)) (record { caller = k; entries = get_or tally k 0 } ∷ []) []) (so_far entries tells)
    ∙ ap (λ n. counted_to entries k ++ cond (nat_lt 0 n) (record { caller = k; entries = n } ∷ []) []) (tells k small)
    ∙ sym (filter_of_map_range_with_len_more some (count_at entries) 0 k k (omega arith))

-- ---- what counts are, is what a front can tell
-- callers from a number on
abbrev From : ℕ → List Count → Type 0
From first counts = AllByRecursion (λ (count : Count). first ≤ count.caller) counts

from_earlier : (a b : ℕ) (counts : List Count) → a ≤ b → From b counts → From a counts
from_earlier a b [] le from = tt
from_earlier a b (count ∷ counts) le from = (let f = from.0 in omega (arith, f), from_earlier a b counts le from.1)

rising_behind : (count : Count) (counts : List Count) → From (count.caller + 1) counts → AreRising counts → AreRising (count ∷ counts)
rising_behind count [] from rising = tt
rising_behind count (next ∷ more) from rising = (let f = from.0 in omega (arith, f), rising)

-- what is known of the rows of some callers, from a first one on
record AreRows (first : ℕ) (counts : List Count) : Type 0 where
  from : From first counts
  fit : AllByRecursion CountFits counts
  rising : AreRising counts

with_row : (first : ℕ) (count : Count) (counts : List Count) (is : Bool) → some count ≡ is → count.caller ≡ first → first < 64 → count.entries < 2 ^ 64 → AreRows (first + 1) counts →
    AreRows first (cond is (count ∷ counts) counts)
with_row first count counts false has caller small few rows = record { from = from_earlier first (first + 1) counts (omega arith) rows.from; fit = rows.fit; rising = rows.rising }
with_row first count counts true has caller small few rows =
    let at_least : 1 ≤ count.entries = ltb-true 0 count.entries has in
    record {
      from = (omega (arith, caller), from_earlier first (first + 1) counts (omega arith) rows.from);
      fit = (record { caller = omega (arith, caller); some = at_least; few = few }, rows.fit);
      rising = rising_behind count counts (subst (λ n. From (n + 1) counts) (sym caller) rows.from) rows.rising;
    }

are_rows : (entries : ℕ → ℕ) (first n : ℕ) → first + n ≤ 64 → ((k : ℕ) → k < 64 → entries k < 2 ^ 64) → AreRows first (filter some (map (count_at entries) (range_with_len first n)))
are_rows entries first zero fits few = record { from = tt; fit = tt; rising = tt }
are_rows entries first (suc n) fits few =
    with_row first (count_at entries first) (filter some (map (count_at entries) (range_with_len (first + 1) n))) (some (count_at entries first)) refl refl (omega (arith, fits)) (few first (omega (arith, fits)))
    (are_rows entries (first + 1) n (omega (arith, fits)) few)

pub counts_fit : (had : List Count) (history : List Entry) → CanCount had history → CountsFit (counts_told had history)
counts_fit had history can =
    let few : (k : ℕ) → k < 64 → entries_told k had + entries_of k history < 2 ^ 64 = λ k small.
    (let most = told_le_all k had in
    let own : entries_of k history ≤ length history = count_by-le-length (λ (e : Entry). e.caller == k) history in
    omega (arith, can, most, own)) in
    let rows = are_rows (λ k. entries_told k had + entries_of k history) 0 64 (omega arith) few in
    (rows.fit, rows.rising)
