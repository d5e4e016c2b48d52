use Rattle.wh_drive.proofs.Going.{someone_truly_moves}
use Rattle.wh_drive.proofs.laws.someone_truly_moves.Goals as goal

pub returns : goal.returns
returns c = someone_truly_moves
