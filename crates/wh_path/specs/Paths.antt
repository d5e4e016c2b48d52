use Rattle.std.specs.Prelude.{◌≡◌, ◌≢◌, ℕ, ◌+◌, ◌-◌, ◌<◌, ◌≤◌, ◌⊎◌, List, [], ◌∷◌, Bool, true, length, min, max, slice_index_or, map, remove}
use Rattle.wh_grid.specs.declared.cell.Cell.{Cell}
use Rattle.wh_grid.specs.Grids.{Floor, IsPassable, IsMove}

-- the cell of a list at a place; past the list's end it is a meaningless cell
abbrev pub cell_at : List Cell → ℕ → Cell
cell_at cells i = slice_index_or cells i (record { x = 0; y = 0 })

abbrev pub last_index : List Cell → ℕ
last_index p = length p - 1

-- where the path is at time k: at its k-th cell, or at its last one when k is past the end
unfoldable pub at : List Cell → ℕ → Cell
at p k = cell_at p (min k (last_index p))

-- where it ends
abbrev pub end : List Cell → Cell
end p = at p (last_index p)

-- at every time it stands on a passable cell, and from one time to the next it stays or goes to a neighbour
pub record IsWalk (g : Floor) (p : List Cell) : Type 0 where
  pub non_empty : 1 ≤ length p
  pub passable : (k : ℕ) → IsPassable g (at p k)
  pub moves : (k : ℕ) → IsMove (at p k) (at p (k + 1))

-- at time k both stand on one cell
abbrev pub MeetAt : List Cell → List Cell → ℕ → Type 0
MeetAt p q k = at p k ≡ at q k

-- between k and k + 1 they exchange cells
abbrev pub SwapAt : List Cell → List Cell → ℕ → Type 0
SwapAt p q k = (at p k ≡ at q (k + 1)) × (at p (k + 1) ≡ at q k)

-- between k and k + 1 one of them enters the cell that the other leaves or keeps
abbrev pub FollowAt : List Cell → List Cell → ℕ → Type 0
FollowAt p q k = (at p (k + 1) ≡ at q k) ⊎ (at q (k + 1) ≡ at p k)

-- at no time do they meet or exchange cells; under the rule, neither do they follow each other
pub record IsFree (nofollow : Bool) (p q : List Cell) : Type 0 where
  pub apart : (k : ℕ) → ¬ MeetAt p q k
  pub no_swap : (k : ℕ) → ¬ SwapAt p q k
  pub no_follow : nofollow ≡ true → (k : ℕ) → ¬ FollowAt p q k

-- the path of an agent
abbrev pub path_of : List (List Cell) → ℕ → List Cell
path_of paths agent = slice_index_or paths agent []

-- where the agent is now
abbrev pub place_of : List (List Cell) → ℕ → Cell
place_of paths agent = at (path_of paths agent) 0

-- where its path ends, and it comes to rest
abbrev pub end_of : List (List Cell) → ℕ → Cell
end_of paths agent = end (path_of paths agent)

-- how many steps the agent has left
abbrev pub steps_left : List (List Cell) → ℕ → ℕ
steps_left paths agent = last_index (path_of paths agent)

-- the paths of all agents but this one
abbrev pub others : List (List Cell) → ℕ → List (List Cell)
others paths agent = remove paths agent

-- the cells where they end
abbrev pub ends : List (List Cell) → List Cell
ends paths = map end paths

-- the greatest number of steps left, 0 where there is no path
abbrev pub horizon : List (List Cell) → ℕ
horizon [] = 0
horizon (p ∷ ps) = max (last_index p) (horizon ps)

-- any two of the paths are free of each other
pub record AllFree (nofollow : Bool) (paths : List (List Cell)) : Type 0 where
  pub pair : (i j : ℕ) → i < length paths → j < length paths → i ≢ j → IsFree nofollow (path_of paths i) (path_of paths j)

-- the path is at the stops in their order: at non-decreasing times
pub record VisitsInOrder (p stops : List Cell) : Type 0 where
  pub when : ℕ → ℕ
  pub in_order : (i j : ℕ) → i ≤ j → when i ≤ when j
  pub there : (i : ℕ) → i < length stops → at p (when i) ≡ cell_at stops i

-- the path one step later: the first cell is dropped if a second follows
abbrev pub advanced : List Cell → List Cell
advanced [] = []
advanced (only ∷ []) = only ∷ []
advanced (first ∷ next ∷ rest) = next ∷ rest
