use Rattle.wh_progress.proofs.Delivered.{all_comes_to_rest}
use Rattle.wh_progress.proofs.laws.all_comes_to_rest.Goals as goal

pub returns : goal.returns
returns c = all_comes_to_rest
