use Rattle.wh_path.proofs.Freedom.{free-unruled}
use Rattle.wh_path.proofs.laws.freedom_needs_no_rule.Goals as goal

pub returns : goal.returns
returns c = free-unruled
