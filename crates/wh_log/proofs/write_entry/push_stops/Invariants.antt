use Rattle.std.proofs.Common.{◌≡◌, ◌++◌, take}
use Rattle.wh_log.specs.Spaced.{spaced}
use Rattle.wh_log.proofs.write_entry.push_stops.Given as goal

abbrev pub invariant-loop-stop : goal.invariant-loop-stop
invariant-loop-stop l = l.out.items ≡ l.fn.out.items ++ spaced (take l.stop-index l.stop-items)
