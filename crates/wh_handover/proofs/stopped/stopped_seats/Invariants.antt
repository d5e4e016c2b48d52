use Rattle.std.proofs.Common.{◌≡◌, [], ◌∷◌, take, map}
use Rattle.std.specs.List.{AllByRecursion}
use Rattle.wh_front.specs.Ranges.{SeatFits}
use Rattle.wh_front.specs.declared.front.Seat.{Seat}
use Rattle.wh_handover.proofs.stopped.stopped_seats.Given as goal

abbrev pub invariant-loop-k : goal.invariant-loop-k
invariant-loop-k l = record {
  slots : map (λ (seat : Seat). seat.slots) l.stopped ≡ map (λ (seat : Seat). seat.slots) (take l.k l.seats);
  paths : map (λ (seat : Seat). seat.path) l.stopped ≡ map (λ cell. cell ∷ []) (take l.k l.places);
  fit : AllByRecursion SeatFits l.stopped;
}
