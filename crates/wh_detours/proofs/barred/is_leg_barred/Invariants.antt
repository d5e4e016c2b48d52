use Rattle.std.proofs.Common.{◌≤◌}
use Rattle.wh_detours.specs.Barred.{IsOnWay}
use Rattle.wh_detours.proofs.barred.is_leg_barred.Given as goal

abbrev pub invariant-loop-left : goal.invariant-loop-left
invariant-loop-left l = record { few : l.left ≤ l.whole; way : IsOnWay l.grid l.others l.fn.loc l.fn.from l.sight.field.now.cell l.cell l.whole l.left }

abbrev pub decreases-loop-left : goal.decreases-loop-left
decreases-loop-left l = l.left
