-- the paths that serve, however long
use Rattle.std.specs.Prelude.{◌≡◌, ℕ, ◌+◌, ◌≤◌, List, Bool, All}
use Rattle.wh_grid.specs.declared.cell.Cell.{Cell}
use Rattle.wh_grid.specs.Grids.{Floor}
use Rattle.wh_path.specs.Paths.{at, last_index, place_of, others, IsWalk, IsFree}
use Rattle.wh_resv.specs.Others.{Others}

-- A path for a duty, which Serves tells, however long: a walk from where the agent is, free of each other's path for ever.
pub record IsService (g : Floor) (nofollow : Bool) (paths : List (List Cell)) (agent : ℕ) (Serves : List Cell → Type 0) (path : List Cell) : Type 0 where
  pub walk : IsWalk g path
  pub starts_here : at path 0 ≡ place_of paths agent
  pub free : All (λ other. IsFree nofollow path other) (others paths agent)
  pub serves : Serves path

abbrev pub HasNoService : Floor → Bool → List (List Cell) → ℕ → (List Cell → Type 0) → Type 0
HasNoService g nofollow paths agent Serves = (path : List Cell) → ¬ IsService g nofollow paths agent Serves path

-- no path for the duty ends before this one, less the slack
abbrev pub HasNoShorter : Floor → Bool → List (List Cell) → ℕ → (List Cell → Type 0) → ℕ → List Cell → Type 0
HasNoShorter g nofollow paths agent Serves slack path =
    (other : List Cell) → IsService g nofollow paths agent Serves other → last_index path ≤ last_index other + slack

-- the others' paths and the rule, as the search sees them
abbrev pub others_of : Bool → List (List Cell) → ℕ → Others
others_of nofollow paths agent = record { paths = others paths agent; nofollow = nofollow }
