use Rattle.std.proofs.Common.{◌≡◌}
use Rattle.wh_work_rows.proofs.tasks.are_taken_in_turn.Given as goal

abbrev pub invariant-loop-n : goal.invariant-loop-n
invariant-loop-n l = l.set.ends ≡ l.fn.set.ends
