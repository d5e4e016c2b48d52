use Rattle.std.proofs.Common.{◌≤◌, length}
use Rattle.wh_log.proofs.usual.name.Given as goal

abbrev pub invariant-loop-i : goal.invariant-loop-i
invariant-loop-i l = l.i-end ≤ length l.fn.text
