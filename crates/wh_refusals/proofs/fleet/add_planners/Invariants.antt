use Rattle.std.specs.Arc.{arc_value}
use Rattle.wh_claims.specs.Bank.{Belongs}
use Rattle.wh_refusals.proofs.fleet.add_planners.Given as goal

abbrev pub invariant-loop : goal.invariant-loop
invariant-loop g l = Belongs l.seat (arc_value l.bank)
