use Rattle.std.proofs.Common.{arith}
use Rattle.wh_formed.proofs.TableLemmas.{neighbours_complete}
use Rattle.wh_formed.proofs.table.neighbours.Goals as goal

pub returns-clause-complete : goal.returns-clause-complete
returns-clause-complete c = λ r hx hy m. neighbours_complete c.args.of r c.saturating_sub.result c.saturating_add.result c.saturating_sub-2.result c.saturating_add-2.result c.saturating_sub.ensures c.saturating_add.ensures c.saturating_sub-2.ensures c.saturating_add-2.ensures (omega arith) (omega arith) m
