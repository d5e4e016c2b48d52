use Rattle.std.proofs.Common.{refl}
use Rattle.wh_board.proofs.OneBook.{meets}
use Rattle.wh_board.proofs.copies.read.Goals as goal

pub enter_as-requires : goal.enter_as-requires
enter_as-requires c x = meets _ _ x x refl
