-- what an agent may do beside the paths of the others
use Rattle.std.specs.Prelude.{◌≡◌, ◌≢◌, ℕ, ◌+◌, ◌≤◌, Bool, true, List, All}
use Rattle.wh_grid.specs.declared.cell.Cell.{Cell}
use Rattle.wh_path.specs.Paths.{at}

-- the paths of the others, and whether nobody may follow
pub record Others : Type 0 where
  pub paths : List (List Cell)
  pub nofollow : Bool

-- between k and k + 1 an agent may go from one cell to another beside the path q:
-- it is not on the first at k nor on the second at k + 1, and does not go the other way;
-- under the rule, where the cells differ, it is not on the second at k nor on the first at k + 1
pub record IsClearStep (nofollow : Bool) (q : List Cell) (from to : Cell) (k : ℕ) : Type 0 where
  pub start : at q k ≢ from
  pub target : at q (k + 1) ≢ to
  pub no_swap : at q k ≡ to → at q (k + 1) ≢ from
  pub no_follow : nofollow ≡ true → from ≢ to → (at q k ≢ to) × (at q (k + 1) ≢ from)

-- between k and k + 1 an agent may go from one cell to another beside all of them
abbrev pub MayStep : Others → Cell → Cell → ℕ → Type 0
MayStep others from to k = All (λ q. IsClearStep others.nofollow q from to k) others.paths

-- the path q is not at the cell at time k or later
pub record StaysAway (q : List Cell) (c : Cell) (k : ℕ) : Type 0 where
  pub away : (j : ℕ) → k ≤ j → at q j ≢ c

-- none is at the cell at time k or later
abbrev pub MayRest : Others → Cell → ℕ → Type 0
MayRest others c k = All (λ q. StaysAway q c k) others.paths
