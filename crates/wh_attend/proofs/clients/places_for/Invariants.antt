-- There is a place for all clients so far.
use Rattle.std.proofs.Common.{◌<◌, ◌≤◌, All, take}
use Rattle.wh_attend.proofs.clients.places_for.Given as goal

abbrev pub invariant-loop-client : goal.invariant-loop-client
invariant-loop-client l = record {
  within : All (λ named. named.number < l.places) (take l.client-index l.clients);
  more : l.fn.places ≤ l.places;
  few : l.places ≤ 64;
}
