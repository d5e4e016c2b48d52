use Rattle.std.proofs.Common.{◌≡◌, take, map}
use Rattle.std.specs.List.{AllByRecursion}
use Rattle.wh_front.specs.Ranges.{SeatFits}
use Rattle.wh_front.specs.declared.front.Seat.{Seat}
use Rattle.wh_snapshot.proofs.seats.seats_of.Given as goal

abbrev pub invariant-loop-k : goal.invariant-loop-k
invariant-loop-k l = record {
  slots : map (λ (seat : Seat). seat.slots) l.seats ≡ take l.k l.slots;
  paths : map (λ (seat : Seat). seat.path) l.seats ≡ take l.k l.paths;
  fit : AllByRecursion SeatFits l.seats;
}
