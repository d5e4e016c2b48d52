use Rattle.wh_search.proofs.Cells.{moves_complete}
use Rattle.wh_path.proofs.WalkLemmas.{move_back}
use Rattle.wh_search.proofs.moves.moves_from.Goals as goal

pub returns-clause-complete : goal.returns-clause-complete
returns-clause-complete c = λ r hx hy m. moves_complete c.args.from r c.saturating_sub.result c.saturating_add.result c.saturating_sub-2.result c.saturating_add-2.result c.saturating_sub.ensures c.saturating_add.ensures c.saturating_sub-2.ensures c.saturating_add-2.ensures hx hy (move_back c.args.from r m)
