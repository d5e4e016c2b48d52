use Rattle.std.proofs.Common.{◌≡◌}
use Rattle.wh_work_rows.proofs.tasks.submit_all.Given as goal

abbrev pub invariant-loop-stops : goal.invariant-loop-stops
invariant-loop-stops l = l.set.ends ≡ l.fn.set.ends
