-- where a table has the cells of a grid: row by row, each row closed by one more place, with one more row above and below
use Rattle.std.specs.Prelude.{◌≡◌, ◌≢◌, ℕ, ◌+◌, ◌*◌, ◌<◌, ◌≤◌, ◌⊎◌, ◌↔◌, List, length, All, Contains, [], ◌∷◌, ◌++◌}
use Rattle.wh_grid.specs.declared.cell.Cell.{Cell}
use Rattle.wh_grid.specs.Grids.{Floor, IsPassable, IsAdjacent}
use Rattle.wh_path.specs.Paths.{cell_at, last_index}
use Rattle.wh_field.specs.Distances.{IsRoute}
use Rattle.wh_field.specs.Tables.{value, blocked, unseen, unseen_count, IsBeside, IsLevelled, IsSpreading}

-- a cell that may be walked on, and is none of those to avoid
pub record IsAllowed (g : Floor) (avoid : List Cell) (c : Cell) : Type 0 where
  pub passable : IsPassable g c
  pub apart : ¬ Contains avoid c

-- how far a place is from the one below it
abbrev pub stride : Floor → ℕ
stride g = g.width + 1

abbrev pub places : Floor → ℕ
places g = (g.width + 1) * (g.height + 2)

-- the place of a cell
abbrev pub place : Floor → Cell → ℕ
place g c = (c.y + 1) * (g.width + 1) + c.x

-- an allowed cell is at this place
pub record IsAllowedAt (g : Floor) (avoid : List Cell) (i : ℕ) : Type 0 where
  pub cell : Cell
  pub here : place g cell ≡ i
  pub allowed : IsAllowed g avoid cell

-- this place of a table has no number yet, and is not blocked just where it is that of an allowed cell
abbrev pub IsOpenAt : Floor → List Cell → List ℕ → ℕ → Type 0
IsOpenAt g avoid t i = ((value t i ≡ blocked) × (IsAllowedAt g avoid i → ⊥)) ⊎ ((value t i ≡ unseen) × IsAllowedAt g avoid i)

-- no place of a table has a number yet, and those that are not blocked are those of allowed cells
pub record IsOpen (g : Floor) (avoid : List Cell) (t : List ℕ) : Type 0 where
  pub size : length t ≡ (g.width + 1) * (g.height + 2)
  pub each : (i : ℕ) → i < (g.width + 1) * (g.height + 2) → IsOpenAt g avoid t i

-- a table has its first n places, and they are open
pub record IsOpenBelow (g : Floor) (n : ℕ) (t : List ℕ) : Type 0 where
  pub size : length t ≡ n
  pub each : (i : ℕ) → i < n → IsOpenAt g [] t i

-- one of the sources is at this place, and is allowed
pub record IsSourceAt (g : Floor) (avoid sources : List Cell) (i : ℕ) : Type 0 where
  pub cell : Cell
  pub source : Contains sources cell
  pub here : place g cell ≡ i
  pub allowed : IsAllowed g avoid cell

-- an open table in which the sources have 0, and are listed
pub record IsStarted (g : Floor) (avoid sources : List Cell) (t starts : List ℕ) : Type 0 where
  pub size : length t ≡ (g.width + 1) * (g.height + 2)
  pub each : (i : ℕ) → ((value t i ≡ blocked) × (IsAllowedAt g avoid i → ⊥)) ⊎ (((value t i ≡ unseen) ⊎ (value t i ≡ 0)) × IsAllowedAt g avoid i)
  pub zero : (i : ℕ) → (value t i ≡ 0) ↔ IsSourceAt g avoid sources i
  pub at_start : All (λ i. value t i ≡ 0) starts
  pub all_starts : (i : ℕ) → value t i ≡ 0 → Contains starts i
  pub room : unseen_count t + length starts ≤ length t

-- one more cell is a source, in a table for any grid of these sides
abbrev pub StartsAt : ℕ → ℕ → Cell → List ℕ → List ℕ → List ℕ → List ℕ → Type 0
StartsAt width height source t starts t' starts' =
    (g : Floor) (avoid sources : List Cell) → g.width ≡ width → g.height ≡ height → IsStarted g avoid sources t starts →
    IsStarted g avoid (sources ++ source ∷ []) t' starts'

-- a table in which each place that is not blocked is that of an allowed cell, and the sources have 0
pub record IsGround (g : Floor) (avoid sources : List Cell) (t : List ℕ) : Type 0 where
  pub size : length t ≡ (g.width + 1) * (g.height + 2)
  pub allowed : (i : ℕ) → value t i ≢ blocked → IsAllowedAt g avoid i
  pub not_blocked : (c : Cell) → IsAllowed g avoid c → value t (place g c) ≢ blocked
  pub zero : (i : ℕ) → (value t i ≡ 0) ↔ IsSourceAt g avoid sources i

-- each allowed cell has its distance from the nearest source, by what stands beside it
pub record IsSurveyed (g : Floor) (avoid sources : List Cell) (t : List ℕ) : Type 0 where
  pub ground : IsGround g avoid sources t
  pub levels : IsLevelled (g.width + 1) t

-- the cells up to a distance have theirs, and those at that distance are in the layer
pub record IsSurveying (g : Floor) (avoid sources : List Cell) (d : ℕ) (t layer : List ℕ) : Type 0 where
  pub ground : IsGround g avoid sources t
  pub spreading : IsSpreading (g.width + 1) d t [] layer

-- whatever grid of these sides a table was filled for, up to whatever distance: now this cell is its one source, and no walk has begun
abbrev pub StartsAgainAt : ℕ → ℕ → Cell → List ℕ → List ℕ → List ℕ → Type 0
StartsAgainAt width height source t t' starts' =
    (g : Floor) (sources : List Cell) (d : ℕ) (layer : List ℕ) → g.width ≡ width → g.height ≡ height → d < blocked →
    IsSurveying g [] sources d t layer → IsStarted g [] (source ∷ []) t' starts'

-- from each cell with a number they fall, one by one, to a source
pub record IsFalling (g : Floor) (avoid sources : List Cell) (t : List ℕ) : Type 0 where
  pub ground : IsGround g avoid sources t
  pub back : (i n : ℕ) → n + 1 < blocked → value t i ≡ n + 1 → (j : ℕ) × IsBeside (g.width + 1) j i × (value t j ≡ n)

-- no route from the source to the cell at this place has fewer steps than the number there, and if there is one it has a number
pub record IsLeastAt (g : Floor) (avoid : List Cell) (source : Cell) (i : ℕ) (t : List ℕ) : Type 0 where
  pub least : (to : Cell) (q : List Cell) → place g to ≡ i → IsRoute g source to avoid q → (value t i ≤ last_index q) × (value t i < blocked)

-- a neighbour that is allowed, at a given distance
pub record IsNearer (g : Floor) (avoid : List Cell) (t : List ℕ) (c : Cell) (n : ℕ) (r : Cell) : Type 0 where
  pub adjacent : IsAdjacent c r
  pub allowed : IsAllowed g avoid r
  pub near : value t (place g r) ≡ n

-- a path of allowed cells down from a cell, k steps long, to a cell with a distance
pub record IsDescent (g : Floor) (avoid : List Cell) (t : List ℕ) (from to : Cell) (k left : ℕ) (p : List Cell) : Type 0 where
  pub route : IsRoute g from to avoid p
  pub size : length p ≡ k + 1
  pub allowed : IsAllowed g avoid to
  pub near : value t (place g to) ≡ left

-- how many steps lead from the source to a cell; none do where it is `blocked` or more
pub record IsSteps (g : Floor) (avoid : List Cell) (t : List ℕ) (from to : Cell) (n : ℕ) : Type 0 where
  pub met : n < blocked → IsAllowed g avoid to × (value t (place g to) ≡ n)
  pub least : (q : List Cell) → IsRoute g from to avoid q → (n ≤ last_index q) × (n < blocked)

-- of the first k of these cells the one at `index` is nearest; none is reached where `steps` is `blocked`
pub record IsNearestBefore (g : Floor) (avoid : List Cell) (t : List ℕ) (from : Cell) (targets : List Cell) (k index steps : ℕ) : Type 0 where
  pub most : steps ≤ blocked
  pub found : steps < blocked → (index < k) × IsSteps g avoid t from (cell_at targets index) steps
  pub nearest : (j : ℕ) (q : List Cell) → j < k → IsRoute g from (cell_at targets j) avoid q →
      (steps < blocked) × ((steps < last_index q) ⊎ ((steps ≡ last_index q) × (index ≤ j)))
