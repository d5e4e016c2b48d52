use Rattle.std.proofs.Common.{◌≡◌, ◌+◌, ◌*◌, ◌≤◌, ◌++◌, length, take}
use Rattle.wh_log.specs.Spaced.{spaced}
use Rattle.wh_log.proofs.pieces.put_stops.Given as goal

abbrev pub invariant-loop-stop : goal.invariant-loop-stop
invariant-loop-stop l = record {
  text : l.head.items ≡ l.fn.head.items ++ spaced (take l.stop-index l.stop-items);
  room : length l.head.items ≤ 60 + 17 * l.stop-index;
}
