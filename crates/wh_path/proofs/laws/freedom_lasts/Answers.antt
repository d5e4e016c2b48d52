use Rattle.wh_path.proofs.Freedom.{free-advanced}
use Rattle.wh_path.proofs.laws.freedom_lasts.Goals as goal

pub returns : goal.returns
returns c = free-advanced
