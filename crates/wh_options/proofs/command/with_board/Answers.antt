-- The options of the board's file, one after the other.
use Rattle.wh_options.proofs.command.with_board.Goals as goal

pub returns : goal.returns
returns c = λ a has. c.with_number.ensures _ (c.in_ok-command.ensures _ has)
