-- None so far has the number.
use Rattle.std.proofs.Common.{◌≢◌, All, take}
use Rattle.wh_attend.proofs.clients.named_by.Given as goal

abbrev pub invariant-loop-client : goal.invariant-loop-client
invariant-loop-client l = All (λ named. named.number ≢ l.number) (take l.client-index l.clients)
