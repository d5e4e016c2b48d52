use Rattle.wh_formed.proofs.StampLemmas.{zeros}
use Rattle.wh_formed.proofs.stamps.Stamps.reset.Goals as goal

pub returns-clause-zero : goal.returns-clause-zero
returns-clause-zero c = zeros c.clear.new.self.items c.resize.new.self.items c.args.n _ c.clear.ensures.items c.clear.ensures.len c.in_ok-resize.ensures.items
