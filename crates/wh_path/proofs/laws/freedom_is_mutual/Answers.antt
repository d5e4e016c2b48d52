use Rattle.wh_path.proofs.Freedom.{free-sym}
use Rattle.wh_path.proofs.laws.freedom_is_mutual.Goals as goal

pub returns : goal.returns
returns c = free-sym
