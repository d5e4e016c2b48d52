-- The options that tell how replies are told, one after the other.
use Rattle.wh_options.proofs.command.with_telling.Goals as goal

pub returns : goal.returns
returns c = λ a has. c.with_choice-2.ensures _ (c.in_ok-command.ensures _ has)
