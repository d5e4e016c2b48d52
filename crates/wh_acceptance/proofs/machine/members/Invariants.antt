use Rattle.std.specs.Arc.{arc_value}
use Rattle.wh_claims.specs.Bank.{Belongs}
use Rattle.wh_acceptance.proofs.machine.members.Given as goal

abbrev pub invariant-loop-map : goal.invariant-loop-map
invariant-loop-map g l = Belongs l.seat (arc_value l.bank)
