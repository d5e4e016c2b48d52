-- the cells at which stations stand
use Rattle.std.specs.Prelude.{ℕ, ◌↔◌, List, Contains}
use Rattle.wh_grid.specs.declared.cell.Cell.{Cell}
use Rattle.wh_points.specs.declared.points.Point.{Point}
use Rattle.wh_points.specs.declared.points.Kind.{Kind}

-- the cells are those of the stations among the points
abbrev pub AreStations : List Point → List Cell → Type 0
AreStations points cells =
    (cell : Cell) → Contains cells cell ↔ ((name : List ℕ) × Contains points (record { name = name; cell = cell; kind = Kind.Station }))
