use Rattle.std.proofs.Common.{◌≡◌, replicate}
use Rattle.wh_event.specs.declared.event.Command.TheVariants.{Token}
use Rattle.wh_edge.proofs.work.agent_work.Given as goal

abbrev pub invariant-loop : goal.invariant-loop
invariant-loop g l = l.commands.items ≡ replicate l.counter (Token l.agent)
