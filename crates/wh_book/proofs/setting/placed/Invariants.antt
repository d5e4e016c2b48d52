use Rattle.std.proofs.Common.{◌≡◌, ◌≢◌, ℕ, ◌<◌}
use Rattle.std.specs.Prelude.{slice_index_or}
use Rattle.wh_points.specs.declared.points.Point.{Point}
use Rattle.wh_book.proofs.setting.placed.Given as goal

abbrev pub invariant-loop-point : goal.invariant-loop-point
invariant-loop-point l = (k : ℕ) (point : Point) → k < l.point-index → slice_index_or l.points k point ≡ point → point.cell ≢ l.cell
