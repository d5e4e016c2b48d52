use Rattle.wh_path.specs.Conflicts.{IsFreeBefore}
use Rattle.wh_path.proofs.meeting.conflict.Given as goal

abbrev pub invariant-loop-k : goal.invariant-loop-k
invariant-loop-k l = IsFreeBefore l.nofollow l.p l.q l.k
