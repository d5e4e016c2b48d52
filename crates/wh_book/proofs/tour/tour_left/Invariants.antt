use Rattle.std.proofs.Common.{◌≡◌, take}
use Rattle.wh_book.proofs.tour.tour_left.Given as goal

abbrev pub invariant-loop-stop : goal.invariant-loop-stop
invariant-loop-stop l = l.cells.items ≡ take l.stop-index l.stop-items
