use Rattle.std.proofs.Common.{take}
use Rattle.wh_stand.specs.Ways.{IsAtPoint}
use Rattle.wh_stand.proofs.ways.has_point.Given as goal

abbrev pub invariant-loop-point : goal.invariant-loop-point
invariant-loop-point l = IsAtPoint (take l.point-index l.points) l.cell → ⊥
