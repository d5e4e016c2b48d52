use Rattle.std.proofs.Common.{◌≡◌}
use Rattle.wh_work_rows.proofs.tasks.are_nearest_as_they_come.Given as goal

abbrev pub invariant-loop-stops : goal.invariant-loop-stops
invariant-loop-stops l = l.set.ends ≡ l.fn.set.ends
