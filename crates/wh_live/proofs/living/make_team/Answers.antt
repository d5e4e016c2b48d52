use Rattle.std.specs.Arc.{arc_value}
use Rattle.wh_live.proofs.living.make_team.Goals as goal

pub returns-in-Ok-works_of-clause-ok : goal.returns-in-Ok-works_of-clause-ok
returns-in-Ok-works_of-clause-ok g c = record {
  bank = arc_value c.in-Ok.opened.0;
  total = c.in-Ok.ensures.total;
  planners_are = record { many_is = c.in-Ok-members.ensures.count; members = c.in-Ok-members.ensures.members };
  clients = c.in-Ok-with_spares.clients.items;
  scripts_are = c.in-Ok-with_spares.ensures.commands;
  spares_are = c.in-Ok-with_spares.ensures.spares;
  works_are = c.in-Ok-works_of.ensures;
}
