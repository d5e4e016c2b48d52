-- Reading values one after the other, as the loops do.
use Rattle.std.proofs.Common.{◌≡◌, ℕ, ◌<◌, ◌≤◌, ◌+◌, Bool, true, false, ◌&&◌, cond, List, [], ◌∷◌, ◌++◌, length, Option, Some, None, Result, Ok, Err, codes, refl, sym, ap, ◌∙◌, append_assoc, arith, length-append}
use Rattle.std.proofs.Math.Dec.{leb as nat_le}
use Rattle.std.proofs.lemmas.Bool.{lt-leb}
use Rattle.std.proofs.lemmas.List.{append-nil}
use Rattle.std.specs.Str.{bytes_eq}
use Rattle.wh_grid.specs.declared.cell.Cell.{Cell}
use Rattle.wh_log.specs.Reading.{◌>>=◌}
use Rattle.wh_front.specs.declared.front.Count.{Count}
use Rattle.wh_front.specs.declared.form_fault.FormFault.{FormFault}
use Rattle.wh_front.specs.declared.form_fault.FormFault.TheVariants as faults
use Rattle.wh_front.specs.Reading.{Reads, Gives, cell_of, cells_of, next_count_of, counts_of}
use Rattle.wh_front.specs.ReadTasks.{clock_of, clocks_at, counted_of, some_clocks_at}

-- what was read before, and what is still read
abbrev pub with_front : {A : Type 0} → List A → Option (List A) → Option (List A)
with_front front read = read >>= λ items. Some (front ++ items)

regroup : {A : Type 0} (front : List A) (item : A) (read : Option (List A)) → with_front front (read >>= λ items. Some (item ∷ items)) ≡ with_front (front ++ item ∷ []) read
regroup {A} front item (Some items) = ap (λ (all : List A). Some all) (sym (append_assoc front (item ∷ []) items))
regroup front item None = refl

-- ---- cells
pub cells_go : (front : List Cell) (word : List ℕ) (words : List (List ℕ)) (cell : Cell) (total : Option (List Cell))
    → cell_of word ≡ Some cell → with_front front (cells_of (word ∷ words)) ≡ total → with_front (front ++ cell ∷ []) (cells_of words) ≡ total
unfolding cells_of
cells_go front word words cell total is so_far =
    let one : with_front front (cells_of (word ∷ words)) ≡ with_front (front ++ cell ∷ []) (cells_of words) = rw is (regroup front cell (cells_of words)) in
    sym one ∙ so_far

pub cells_fault : (front : List Cell) (word : List ℕ) (words : List (List ℕ)) (total : Option (List Cell)) → cell_of word ≡ None → with_front front (cells_of (word ∷ words)) ≡ total → total ≡ None
unfolding cells_of
cells_fault front word words total is so_far =
    let one : with_front front (cells_of (word ∷ words)) ≡ None = rw is refl in
    sym so_far ∙ one

pub cells_done : (front : List Cell) (total : Option (List Cell)) → with_front front (cells_of []) ≡ total → total ≡ Some front
unfolding cells_of
cells_done front total so_far = sym so_far ∙ ap (λ (all : List Cell). Some all) (append-nil front)

-- ---- counts
pub counts_go : (front : List Count) (least : ℕ) (word : List ℕ) (words : List (List ℕ)) (count : Count) (total : Option (List Count))
    → next_count_of least word ≡ Some count → with_front front (counts_of least (word ∷ words)) ≡ total → with_front (front ++ count ∷ []) (counts_of (count.caller + 1) words) ≡ total
unfolding counts_of
counts_go front least word words count total is so_far =
    let one : with_front front (counts_of least (word ∷ words)) ≡ with_front (front ++ count ∷ []) (counts_of (count.caller + 1) words) = rw is (regroup front count (counts_of (count.caller + 1) words)) in
    sym one ∙ so_far

pub counts_fault : (front : List Count) (least : ℕ) (word : List ℕ) (words : List (List ℕ)) (total : Option (List Count)) → next_count_of least word ≡ None → with_front front (counts_of least (word ∷ words)) ≡ total → total ≡ None
unfolding counts_of
counts_fault front least word words total is so_far =
    let one : with_front front (counts_of least (word ∷ words)) ≡ None = rw is refl in
    sym so_far ∙ one

pub counts_done : (front : List Count) (least : ℕ) (total : Option (List Count)) → with_front front (counts_of least []) ≡ total → total ≡ Some front
unfolding counts_of
counts_done front least total so_far = sym so_far ∙ ap (λ (all : List Count). Some all) (append-nil front)

pub counts_start : (words : List (List ℕ)) → with_front [] (counts_of 0 words) ≡ counts_of 0 words
counts_start words = go (counts_of 0 words)
  where
    go : (read : Option (List Count)) → with_front [] read ≡ read
    go (Some counts) = refl
    go None = refl

-- ---- the clocks of visits
abbrev pub with_clocks : List ℕ → Option (List ℕ × List (List ℕ)) → Option (List ℕ × List (List ℕ))
with_clocks front read = read >>= λ x. Some (front ++ x.0, x.1)

regroup_clocks : (front : List ℕ) (clock : ℕ) (read : Option (List ℕ × List (List ℕ))) → with_clocks front (read >>= λ x. Some (clock ∷ x.0, x.1)) ≡ with_clocks (front ++ clock ∷ []) read
regroup_clocks front clock (Some x) = ap (λ (clocks : List ℕ). Some (clocks, x.1)) (sym (append_assoc front (clock ∷ []) x.0))
regroup_clocks front clock None = refl

pub clocks_go : (front : List ℕ) (word : List ℕ) (words : List (List ℕ)) (clock : ℕ) (total : Option (List ℕ × List (List ℕ)))
    → bytes_eq word (codes "stops") ≡ false → clock_of word ≡ Some clock → with_clocks front (clocks_at (word ∷ words)) ≡ total → with_clocks (front ++ clock ∷ []) (clocks_at words) ≡ total
unfolding clocks_at
clocks_go front word words clock total other is so_far =
    let one : with_clocks front (clocks_at (word ∷ words)) ≡ with_clocks (front ++ clock ∷ []) (clocks_at words) = rw (other, is) (regroup_clocks front clock (clocks_at words)) in
    sym one ∙ so_far

none_counted : (all : List (List ℕ)) → clocks_at all ≡ None → some_clocks_at all ≡ None
unfolding some_clocks_at
none_counted all e = rw e refl

pub clocks_fault : (front : List ℕ) (word : List ℕ) (words all : List (List ℕ))
    → bytes_eq word (codes "stops") ≡ false → clock_of word ≡ None → with_clocks front (clocks_at (word ∷ words)) ≡ clocks_at all → some_clocks_at all ≡ None
unfolding clocks_at
clocks_fault front word words all other is so_far =
    let one : with_clocks front (clocks_at (word ∷ words)) ≡ None = rw (other, is) refl in
    none_counted all (sym so_far ∙ one)

pub clocks_cut : (front : List ℕ) (all : List (List ℕ)) → with_clocks front (clocks_at []) ≡ clocks_at all → some_clocks_at all ≡ None
unfolding clocks_at
clocks_cut front all so_far = none_counted all (sym so_far)

not_counted : (clocks : List ℕ) → 8 < length clocks → counted_of clocks ≡ None
not_counted clocks many = let no : nat_le (length clocks) 8 ≡ false = lt-leb _ _ many in go (nat_le 1 (length clocks)) (nat_le (length clocks) 8) no
  where
    go : (a b : Bool) → b ≡ false → cond (a && b) (Some clocks) None ≡ None
    go true b over = rw over refl
    go false b over = refl

-- one more clock than a task may have stops
pub clocks_many : (front : List ℕ) (word : List ℕ) (words all : List (List ℕ)) (clock : ℕ) → 8 ≤ length front
    → bytes_eq word (codes "stops") ≡ false → clock_of word ≡ Some clock → with_clocks front (clocks_at (word ∷ words)) ≡ clocks_at all → some_clocks_at all ≡ None
unfolding some_clocks_at
clocks_many front word words all clock full other is so_far = go (clocks_at words) (clocks_go front word words clock (clocks_at all) other is so_far)
  where
    go : (read : Option (List ℕ × List (List ℕ))) → with_clocks (front ++ clock ∷ []) read ≡ clocks_at all → some_clocks_at all ≡ None
    go None e = none_counted all (sym e)
    go (Some x) e =
        let count : length ((front ++ clock ∷ []) ++ x.0) ≡ (length front + 1) + length x.0 = simp length-append (omega arith) in
        let none : counted_of ((front ++ clock ∷ []) ++ x.0) ≡ None = not_counted ((front ++ clock ∷ []) ++ x.0) (omega arith) in
        rw (sym e, none) refl

pub clocks_done : (front : List ℕ) (word : List ℕ) (words all : List (List ℕ)) (result : Result (List ℕ) FormFault)
    → bytes_eq word (codes "stops") ≡ true → with_clocks front (clocks_at (word ∷ words)) ≡ clocks_at all → Gives (λ x. x) result (counted_of front) → Reads (λ x. x) result words (some_clocks_at all)
unfolding some_clocks_at clocks_at
clocks_done front word words all result here so_far given = go result given
  where
    clocks : clocks_at all ≡ Some (front, words)
    clocks =
        let one : with_clocks front (clocks_at (word ∷ words)) ≡ Some (front, words) = rw here (ap (λ (clocks : List ℕ). Some (clocks, words)) (append-nil front)) in
        sym so_far ∙ one

    go : (result : Result (List ℕ) FormFault) → Gives (λ x. x) result (counted_of front) → Reads (λ x. x) result words (some_clocks_at all)
    go (Ok x) e = rw (clocks, e) refl
    go (Err faults.Form) e = rw (clocks, e) refl
    go (Err faults.NoMemory) e = tt

pub clocks_start : (words : List (List ℕ)) → with_clocks [] (clocks_at words) ≡ clocks_at words
clocks_start words = go (clocks_at words)
  where
    go : (read : Option (List ℕ × List (List ℕ))) → with_clocks [] read ≡ read
    go (Some x) = refl
    go None = refl
