use Rattle.std.proofs.Common.{arith}
use Rattle.wh_tasks.proofs.Lists.{before_within, next_within, list_within, linked_out, stops_out}
use Rattle.wh_tasks.proofs.cell_lists.unlink.Goals as goal

pub set_next-requires-clause-places : goal.set_next-requires-clause-places
set_next-requires-clause-places c = (let e = c.requires.linked.places in omega arith)

pub set_next-requires-clause-within : goal.set_next-requires-clause-within
set_next-requires-clause-within c = before_within _ _ _ _ c.args.k c.requires.linked c.requires.stands

pub set_before-requires : goal.set_before-requires
set_before-requires c = (let e = c.set_next.ensures.stops.size in let within = next_within _ _ _ _ c.args.k c.requires.linked c.requires.stands in omega arith)

pub returns-clause-linked : goal.returns-clause-linked
returns-clause-linked c = linked_out _ _ _ _ _ _ _ c.args.k c.requires.linked c.requires.stands (list_within _ _ _) c.set_next.ensures.stops c.set_before.ensures c.set_next.ensures.head c.set_next.ensures.kept

pub returns-clause-stops : goal.returns-clause-stops
returns-clause-stops c = stops_out _ _ _ c.args.k c.set_next.ensures.stops c.set_before.ensures
