use Rattle.wh_progress.proofs.Delivered.{rounds_find_paths}
use Rattle.wh_progress.proofs.laws.rounds_find_paths.Goals as goal

pub returns : goal.returns
returns c = rounds_find_paths
