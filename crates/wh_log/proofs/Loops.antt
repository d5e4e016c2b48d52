-- Reading names and cells one after the other, as the loops do.
use Rattle.std.proofs.Common.{◌≡◌, ℕ, ◌<◌, ◌≤◌, ◌+◌, Bool, true, false, ◌&&◌, cond, List, [], ◌∷◌, ◌++◌, length, Option, Some, None, Result, Ok, Err, codes, refl, sym, ap, ◌∙◌, append_assoc, arith, length-append}
use Rattle.std.proofs.Math.Dec.{leb as nat_le}
use Rattle.std.proofs.lemmas.Bool.{lt-leb}
use Rattle.std.proofs.lemmas.List.{append-nil}
use Rattle.std.specs.Str.{bytes_eq}
use Rattle.wh_text.specs.Names.{name_of}
use Rattle.wh_grid.specs.declared.cell.Cell.{Cell}
use Rattle.wh_log.specs.declared.entry_fault.EntryFault.{EntryFault}
use Rattle.wh_log.specs.declared.entry_fault.EntryFault.TheVariants as faults
use Rattle.wh_log.specs.Reading.{◌>>=◌, Reads, Gives, next_cell_of, cells_of, cell_of, path_of}
use Rattle.wh_log.specs.ReadEvents.{names_at, counted_of, stops_at}

-- what was read before, and what is still read
abbrev pub with_names : List (List ℕ) → Option (List (List ℕ) × List (List ℕ)) → Option (List (List ℕ) × List (List ℕ))
with_names front read = read >>= λ x. Some (front ++ x.0, x.1)

abbrev pub with_cells : List Cell → Option (List Cell) → Option (List Cell)
with_cells front read = read >>= λ cells. Some (front ++ cells)

regroup_names : (front : List (List ℕ)) (name : List ℕ) (read : Option (List (List ℕ) × List (List ℕ))) → with_names front (read >>= λ x. Some (name ∷ x.0, x.1)) ≡ with_names (front ++ name ∷ []) read
regroup_names front name (Some x) = ap (λ (names : List (List ℕ)). Some (names, x.1)) (simp append_assoc)
regroup_names front name None = refl

pub names_go : (front : List (List ℕ)) (word : List ℕ) (words : List (List ℕ)) (name : List ℕ) (total : Option (List (List ℕ) × List (List ℕ)))
    → bytes_eq word (codes "=") ≡ false → name_of word ≡ Some name → with_names front (names_at (word ∷ words)) ≡ total → with_names (front ++ name ∷ []) (names_at words) ≡ total
unfolding names_at
names_go front word words name total other is so_far =
    let one : with_names front (names_at (word ∷ words)) ≡ with_names (front ++ name ∷ []) (names_at words) = rw (other, is) (regroup_names front name (names_at words)) in
    sym one ∙ so_far

names_done : (front : List (List ℕ)) (word : List ℕ) (words : List (List ℕ)) (total : Option (List (List ℕ) × List (List ℕ)))
    → bytes_eq word (codes "=") ≡ true → with_names front (names_at (word ∷ words)) ≡ total → total ≡ Some (front, words)
unfolding names_at
names_done front word words total here so_far =
    let one : with_names front (names_at (word ∷ words)) ≡ Some (front, words) = rw here (ap (λ (names : List (List ℕ)). Some (names, words)) (append-nil front)) in
    sym so_far ∙ one

names_fault : (front : List (List ℕ)) (word : List ℕ) (words : List (List ℕ)) (total : Option (List (List ℕ) × List (List ℕ)))
    → bytes_eq word (codes "=") ≡ false → name_of word ≡ None → with_names front (names_at (word ∷ words)) ≡ total → total ≡ None
unfolding names_at
names_fault front word words total other is so_far =
    let one : with_names front (names_at (word ∷ words)) ≡ None = rw (other, is) refl in
    sym so_far ∙ one

names_cut : (front : List (List ℕ)) (total : Option (List (List ℕ) × List (List ℕ))) → with_names front (names_at []) ≡ total → total ≡ None
unfolding names_at
names_cut front total so_far = sym so_far

regroup_cells : (front : List Cell) (cell : Cell) (read : Option (List Cell)) → with_cells front (read >>= λ cells. Some (cell ∷ cells)) ≡ with_cells (front ++ cell ∷ []) read
regroup_cells front cell (Some cells) = ap (λ (all : List Cell). Some all) (simp append_assoc)
regroup_cells front cell None = refl

pub cells_start : (first : Cell) (word : List ℕ) (words : List (List ℕ)) → cell_of word ≡ Some first → with_cells (first ∷ []) (cells_of first words) ≡ path_of (word ∷ words)
unfolding path_of
cells_start first word words is = rw is refl

pub cells_go : (front : List Cell) (last : Cell) (word : List ℕ) (words : List (List ℕ)) (cell : Cell) (total : Option (List Cell))
    → next_cell_of last word ≡ Some cell → with_cells front (cells_of last (word ∷ words)) ≡ total → with_cells (front ++ cell ∷ []) (cells_of cell words) ≡ total
unfolding cells_of
cells_go front last word words cell total is so_far =
    let one : with_cells front (cells_of last (word ∷ words)) ≡ with_cells (front ++ cell ∷ []) (cells_of cell words) = rw is (regroup_cells front cell (cells_of cell words)) in
    sym one ∙ so_far

pub cells_fault : (front : List Cell) (last : Cell) (word : List ℕ) (words : List (List ℕ)) (total : Option (List Cell))
    → next_cell_of last word ≡ None → with_cells front (cells_of last (word ∷ words)) ≡ total → total ≡ None
unfolding cells_of
cells_fault front last word words total is so_far =
    let one : with_cells front (cells_of last (word ∷ words)) ≡ None = rw is refl in
    sym so_far ∙ one

pub cells_done : (front : List Cell) (last : Cell) (total : Option (List Cell)) → with_cells front (cells_of last []) ≡ total → total ≡ Some front
unfolding cells_of
cells_done front last total so_far = sym so_far ∙ ap (λ (all : List Cell). Some all) (append-nil front)

pub path_cut : path_of [] ≡ None
unfolding path_of
path_cut = refl

pub path_fault : (word : List ℕ) (words : List (List ℕ)) → cell_of word ≡ None → path_of (word ∷ words) ≡ None
unfolding path_of
path_fault word words is = rw is refl

-- ---- the stops of a task
no_stops : (most : ℕ) (all : List (List ℕ)) → names_at all ≡ None → stops_at most all ≡ None
unfolding stops_at
no_stops most all e = rw e refl

pub stops_fault : (most : ℕ) (front : List (List ℕ)) (word : List ℕ) (words all : List (List ℕ))
    → bytes_eq word (codes "=") ≡ false → name_of word ≡ None → with_names front (names_at (word ∷ words)) ≡ names_at all → stops_at most all ≡ None
stops_fault most front word words all other is so_far = no_stops most all (names_fault front word words (names_at all) other is so_far)

pub stops_cut : (most : ℕ) (front all : List (List ℕ)) → with_names front (names_at []) ≡ names_at all → stops_at most all ≡ None
stops_cut most front all so_far = no_stops most all (names_cut front (names_at all) so_far)

not_counted : (most : ℕ) (names : List (List ℕ)) → most < length names → counted_of most names ≡ None
not_counted most names many = let no : nat_le (length names) most ≡ false = lt-leb _ _ many in go (nat_le 2 (length names)) (nat_le (length names) most) no
  where
    go : (a b : Bool) → b ≡ false → cond (a && b) (Some names) None ≡ None
    go true b over = rw over refl
    go false b over = refl

-- one more name than a task may have stops
pub stops_many : (most : ℕ) (front : List (List ℕ)) (word : List ℕ) (words all : List (List ℕ)) (name : List ℕ) → most ≤ 8 → 8 ≤ length front
    → bytes_eq word (codes "=") ≡ false → name_of word ≡ Some name → with_names front (names_at (word ∷ words)) ≡ names_at all → stops_at most all ≡ None
unfolding stops_at
stops_many most front word words all name low full other is so_far = go (names_at words) (names_go front word words name (names_at all) other is so_far)
  where
    go : (read : Option (List (List ℕ) × List (List ℕ))) → with_names (front ++ name ∷ []) read ≡ names_at all → stops_at most all ≡ None
    go None e = no_stops most all (sym e)
    go (Some x) e =
        let count : length ((front ++ name ∷ []) ++ x.0) ≡ (length front + 1) + length x.0 = simp length-append (omega arith) in
        let none : counted_of most ((front ++ name ∷ []) ++ x.0) ≡ None = not_counted most ((front ++ name ∷ []) ++ x.0) (omega arith) in
        rw (sym e, none) refl

pub stops_done : (most : ℕ) (front : List (List ℕ)) (word : List ℕ) (words all : List (List ℕ)) (result : Result (List (List ℕ)) EntryFault)
    → bytes_eq word (codes "=") ≡ true → with_names front (names_at (word ∷ words)) ≡ names_at all → Gives (λ x. x) result (counted_of most front) → Reads (λ x. x) result words (stops_at most all)
unfolding stops_at
stops_done most front word words all result here so_far given = go result given
  where
    names : names_at all ≡ Some (front, words)
    names = names_done front word words (names_at all) here so_far

    go : (result : Result (List (List ℕ)) EntryFault) → Gives (λ x. x) result (counted_of most front) → Reads (λ x. x) result words (stops_at most all)
    go (Ok x) e = rw (names, e) refl
    go (Err faults.Form) e = rw (names, e) refl
    go (Err faults.NoMemory) e = tt
