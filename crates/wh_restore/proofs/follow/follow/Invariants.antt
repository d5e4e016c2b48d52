use Rattle.std.proofs.Common.{length}
use Rattle.wh_restore.proofs.Following.{IsRestoring}
use Rattle.wh_restore.proofs.follow.follow.Given as goal

abbrev pub invariant-loop-alloc : goal.invariant-loop-alloc
invariant-loop-alloc l = IsRestoring l.fn.restoring.builder.site l.fn.restoring.rules l.fn.text l.reader l.restoring

abbrev pub decreases-loop-alloc : goal.decreases-loop-alloc
decreases-loop-alloc l = length l.reader.rest
