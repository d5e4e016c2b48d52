-- The options of vehicles, one after the other.
use Rattle.wh_options.proofs.command.with_vehicles.Goals as goal

pub returns : goal.returns
returns c = λ a has. c.with_number-2.ensures _ (c.in_ok-command-2.ensures _ (c.in_ok-command.ensures _ has))
