use Rattle.std.specs.Arc.{arc_value}
use Rattle.wh_claims.specs.Bank.{Belongs}
use Rattle.wh_embedding.proofs.day.add_planners.Given as goal

abbrev pub invariant-loop-agent : goal.invariant-loop-agent
invariant-loop-agent g l = record { seat : Belongs l.seat (arc_value l.bank) }
