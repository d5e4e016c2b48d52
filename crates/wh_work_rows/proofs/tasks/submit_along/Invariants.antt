use Rattle.std.proofs.Common.{◌≡◌}
use Rattle.wh_work_rows.proofs.tasks.submit_along.Given as goal

abbrev pub invariant-loop-x : goal.invariant-loop-x
invariant-loop-x l = l.set.ends ≡ l.fn.set.ends
