-- The options of the log's file, one after the other.
use Rattle.wh_options.proofs.command.with_log.Goals as goal

pub returns : goal.returns
returns c = λ a has. c.with_switch.ensures _ (c.in_ok-command-2.ensures _ (c.in_ok-command.ensures _ has))
