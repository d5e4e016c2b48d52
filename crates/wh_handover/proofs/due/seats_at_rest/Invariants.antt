use Rattle.std.proofs.Common.{◌≡◌, take}
use Rattle.wh_handover.specs.Chains.{at_rest_as, matched}
use Rattle.wh_handover.proofs.due.seats_at_rest.Given as goal

-- the agents so far
abbrev pub invariant-loop-k : goal.invariant-loop-k
invariant-loop-k l = l.at_rest ≡ matched at_rest_as (take l.k l.seats) l.others
