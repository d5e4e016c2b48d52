-- The log, the clients, and how they are served, one option after the other.
use Rattle.wh_options.proofs.command.with_clients.Goals as goal

pub returns : goal.returns
returns c = λ a has. c.with_many.ensures _ (c.in_ok-command-4.ensures _ (c.in_ok-command-3.ensures _ (c.in_ok-command-2.ensures _ (c.in_ok-command.ensures _ has))))
