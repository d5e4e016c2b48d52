use Rattle.std.proofs.Common.{◌≡◌, ◌++◌, take, map, decimal}
use Rattle.wh_log.specs.Spaced.{spaced}
use Rattle.wh_log.proofs.writer.push_slots.Given as goal

abbrev pub invariant-loop-slot : goal.invariant-loop-slot
invariant-loop-slot l = l.out.items ≡ l.fn.out.items ++ spaced (map decimal (take l.slot-index l.slots))
