-- an agent's stay at a cell, without where it came from
use Rattle.std.specs.Prelude.{ℕ}
use Rattle.wh_grid.specs.declared.cell.Cell.{Cell}

-- it comes to a cell at a time with a number of stops behind it, and may wait there up to another time
pub record Stay : Type 0 where
  pub time : ℕ
  pub leg : ℕ
  pub cell : Cell
  pub until : ℕ
