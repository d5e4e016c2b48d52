use Rattle.std.proofs.Common.{◌≡◌}
use Rattle.wh_service.specs.Chained.{IsReached}
use Rattle.wh_service.proofs.chained.chained.Given as goal

-- as many logs as turns were read
abbrev pub invariant-loop : goal.invariant-loop
invariant-loop g l = record { reached : IsReached l.fn.setting l.initial.lines l.lines l.reached; logs_are : l.reached.tally.logs ≡ l.counter }
