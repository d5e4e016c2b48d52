-- well-formed instances, as Ma et al. (AAMAS 2017) ask for them
use Rattle.std.specs.Prelude.{◌≡◌, ◌≢◌, ℕ, ◌≤◌, ◌⊎◌, List, length}
use Rattle.wh_grid.specs.declared.cell.Cell.{Cell}
use Rattle.wh_path.specs.Paths.{at}
use Rattle.wh_path.specs.Walks.{IsWalkBetween}
use Rattle.wh_points.specs.Points.{Site, IsPointCell, parkings}

-- a walk from one cell to another that meets no third point
pub record IsJoin (site : Site) (c d : Cell) (walk : List Cell) : Type 0 where
  pub between : IsWalkBetween site.grid c d walk
  pub no_third : (k : ℕ) → IsPointCell site.layout (at walk k) → (at walk k ≡ c) ⊎ (at walk k ≡ d)

-- Well-formed: there are as many parkings as agents, and any two points are joined by a walk that meets no third point.
pub record IsFormed (site : Site) : Type 0 where
  pub enough : length site.layout.agents ≤ parkings site.layout
  pub joined : (c d : Cell) → IsPointCell site.layout c → IsPointCell site.layout d → c ≢ d → (walk : List Cell) × IsJoin site c d walk
