-- a walk over the stops at a cell, from the latest to the first
use Rattle.std.proofs.Common.{◌≡◌, ℕ, ◌<◌, ◌≤◌, List, Option, Some, None, ap, sym, ◌∙◌, arith, subst}
use Prim.Native.Nat.{suc}
use Rattle.std.specs.Prelude.{IfSome, IfNone}
use Rattle.std.proofs.lemmas.Option.{same_Some}
use Rattle.wh_grid.specs.declared.cell.Cell.{Cell}
use Rattle.wh_tasks.specs.declared.cell_lists.Stop.{Stop}
use Rattle.wh_tasks.specs.CellLists.{StandsAt, IsLastBelow, NoneBelow, listed}

-- a stop is one of one task, at one cell
pub stands-one : (stops : List Stop) (k n m : ℕ) (c d : Cell) → StandsAt stops k n c → StandsAt stops k m d → (n ≡ m) × (c ≡ d)
stands-one stops k n m c d p q = one n m c d (same_Some (listed n c) (listed m d) (sym p ∙ q))
  where
    one : (n m : ℕ) (c d : Cell) → listed n c ≡ listed m d → (n ≡ m) × (c ≡ d)
    one n m c d e = (let t : suc n ≡ suc m = ap (λ (s : Stop). s.task) e in omega (arith, t), ap (λ (s : Stop). s.cell) e)

-- where a walk has come to: the stop it looks at next has this number; the stops from the bound on it has seen
abbrev pub bound_of : Option ℕ → ℕ
bound_of None = 0
bound_of (Some k) = suc k

-- the walk has come to a stop at the cell
abbrev pub StandsThere : List Stop → Cell → Option ℕ → Type 0
StandsThere stops cell at = IfSome at (λ k. (task : ℕ) × StandsAt stops k task cell)

pub stands-there : (stops : List Stop) (cell : Cell) (bound : ℕ) (at : Option ℕ) → IfSome at (λ k. IsLastBelow stops cell bound k) → StandsThere stops cell at
stands-there stops cell bound None some = tt
stands-there stops cell bound (Some k) some = (some.task, some.stands)

-- where it goes on it is below the bound that it came from
pub goes-down : (stops : List Stop) (cell : Cell) (bound : ℕ) (at : Option ℕ) → IfSome at (λ k. IsLastBelow stops cell bound k) → bound_of at ≤ bound
goes-down stops cell bound None some = omega arith
goes-down stops cell bound (Some k) some = let below = some.below in omega (arith, below)

-- and between the two none stands at the cell
pub none-between : (stops : List Stop) (cell : Cell) (bound : ℕ) (at : Option ℕ) → IfSome at (λ k. IsLastBelow stops cell bound k) → IfNone at (NoneBelow stops cell bound) →
    (j n : ℕ) → bound_of at ≤ j → j < bound → ¬ StandsAt stops j n cell
none-between stops cell bound None some none = λ j n after before. none j n before
none-between stops cell bound (Some k) some none = λ j n after before. some.last j n (omega arith) before

-- the stop it has come to is one of the task that is told for it
pub walk-stop : (stops : List Stop) (k n : ℕ) (cell : Cell) → ((task : ℕ) × StandsAt stops k task cell) → ((c : Cell) × StandsAt stops k n c) → StandsAt stops k n cell
walk-stop stops k n cell here told = subst (λ (c : Cell). StandsAt stops k n c) (stands-one stops k n here.0 told.0 cell told.1 here.1).1 told.1
