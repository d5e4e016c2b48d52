use Rattle.std.proofs.Common.{length}
use Rattle.wh_front.proofs.Standing.{HasTold}
use Rattle.wh_front.proofs.reader.read_front.Given as goal

abbrev pub invariant-loop-alloc : goal.invariant-loop-alloc
invariant-loop-alloc l = HasTold l.fn.text l.front l.reader

abbrev pub decreases-loop-alloc : goal.decreases-loop-alloc
decreases-loop-alloc l = length l.reader.rest
