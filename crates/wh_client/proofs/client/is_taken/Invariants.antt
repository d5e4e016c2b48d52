-- None so far has the number or the folder.
use Rattle.std.proofs.Common.{◌≡◌, false, take}
use Rattle.std.specs.List.{list_any}
use Rattle.wh_client.specs.Clients.{shares}
use Rattle.wh_client.proofs.client.is_taken.Given as goal

abbrev pub invariant-loop-other : goal.invariant-loop-other
invariant-loop-other l = list_any (λ c. shares c l.client) (take l.other-index l.clients) ≡ false
