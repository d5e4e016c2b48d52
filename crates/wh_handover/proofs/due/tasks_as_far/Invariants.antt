use Rattle.std.proofs.Common.{◌≡◌, take}
use Rattle.wh_handover.specs.Chains.{as_far_as, matched}
use Rattle.wh_handover.proofs.due.tasks_as_far.Given as goal

-- the tasks so far
abbrev pub invariant-loop-k : goal.invariant-loop-k
invariant-loop-k l = l.as_far ≡ matched as_far_as (take l.k l.tasks) l.others
