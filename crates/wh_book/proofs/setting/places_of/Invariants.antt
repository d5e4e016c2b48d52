use Rattle.std.proofs.Common.{◌≡◌, take, length}
use Rattle.std.specs.List.{AllZip}
use Rattle.wh_points.specs.Points.{IsStation}
use Rattle.wh_book.proofs.setting.places_of.Given as goal

abbrev pub invariant-loop-k : goal.invariant-loop-k
invariant-loop-k l = record {
  stations : AllZip (IsStation l.points) (take l.k l.names) l.cells.items;
  count : length l.cells.items ≡ l.k;
}
