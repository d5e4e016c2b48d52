-- the grid: its cells, which of them are passable, and which are beside each other
use Rattle.std.specs.Prelude.{◌≡◌, ℕ, ◌+◌, ◌*◌, ◌<◌, ◌⊎◌, List, Bool, true, Some, slice_get, count_by, nat_eq, ◌&&◌}
use Rattle.std.specs.Cmp.Lexicographic.{pointwise}
use Rattle.std.proofs.Math.Bool.{beq}
use Rattle.wh_grid.specs.declared.cell.Cell.{Cell}

-- a grid: its sides, and row by row which cells are passable
pub record Floor : Type 0 where
  pub width : ℕ
  pub height : ℕ
  pub walkable : List Bool

-- the cell lies within the sides, and may be walked on
pub record IsPassable (g : Floor) (c : Cell) : Type 0 where
  pub in_width : c.x < g.width
  pub in_height : c.y < g.height
  pub is_walkable : slice_get g.walkable (c.y * g.width + c.x) ≡ Some true

-- how many cells are passable
abbrev pub passable_cells : Floor → ℕ
passable_cells g = count_by (λ b. b) g.walkable

-- they differ by 1 in one coordinate and agree in the other
abbrev pub IsAdjacent : Cell → Cell → Type 0
IsAdjacent c d =
    ((c.y ≡ d.y) × ((c.x + 1 ≡ d.x) ⊎ (d.x + 1 ≡ c.x))) ⊎ ((c.x ≡ d.x) × ((c.y + 1 ≡ d.y) ⊎ (d.y + 1 ≡ c.y)))

-- one timestep: to stay, or to go to a neighbour
abbrev pub IsMove : Cell → Cell → Type 0
IsMove c d = (c ≡ d) ⊎ IsAdjacent c d

-- whether two grids have the same sides and the same passable cells
abbrev pub same_floor : Floor → Floor → Bool
same_floor g h = nat_eq g.width h.width && nat_eq g.height h.height && pointwise beq g.walkable h.walkable
