-- the flaws of an agent's path
use Rattle.std.specs.Prelude.{◌≡◌, ℕ, ◌+◌, ◌<◌, List, Bool, length}
use Rattle.wh_grid.specs.declared.cell.Cell.{Cell}
use Rattle.wh_grid.specs.Grids.{Floor, IsPassable, IsMove}
use Rattle.wh_path.specs.Paths.{at, path_of, IsWalk, IsFree}
use Rattle.wh_stand.specs.declared.flaw.Flaw.{Flaw}

-- at some time the path is at the cell, which is not passable, and at each time before it is at a passable one
pub record IsFirstBlocked (g : Floor) (path : List Cell) (cell : Cell) : Type 0 where
  pub when : ℕ
  pub there : at path when ≡ cell
  pub blocked : ¬ IsPassable g cell
  pub before : (k : ℕ) → k < when → IsPassable g (at path k)

-- from some time to the next the path neither stays nor goes to a neighbour
abbrev pub HasJump : List Cell → Type 0
HasJump path = (when : ℕ) × ¬ IsMove (at path when) (at path (when + 1))

-- the path is not free of the agent's, and is free of those of all agents before
pub record IsFirstInTheWay (nofollow : Bool) (paths : List (List Cell)) (path : List Cell) (agent : ℕ) : Type 0 where
  pub known : agent < length paths
  pub not_free : ¬ IsFree nofollow path (path_of paths agent)
  pub before : (earlier : ℕ) → earlier < agent → IsFree nofollow path (path_of paths earlier)

-- the path is a walk that is free of all these
pub record IsFit (g : Floor) (nofollow : Bool) (paths : List (List Cell)) (path : List Cell) : Type 0 where
  pub walk : IsWalk g path
  pub free : (agent : ℕ) → agent < length paths → IsFree nofollow path (path_of paths agent)

-- the first flaw of a path that comes behind these
abbrev pub IsPathFlaw : Floor → Bool → List (List Cell) → List Cell → Flaw → Type 0
IsPathFlaw g nofollow paths path (Flaw.Blocked cell) = IsFirstBlocked g path cell
IsPathFlaw g nofollow paths path Flaw.NoStep = ((k : ℕ) → IsPassable g (at path k)) × HasJump path
IsPathFlaw g nofollow paths path (Flaw.Conflict agent) = IsWalk g path × IsFirstInTheWay nofollow paths path agent
IsPathFlaw g nofollow paths path flaw = ⊥
