use Rattle.std.proofs.Common.{◌≡◌, length}
use Rattle.wh_log.specs.ReadEvents.{names_at}
use Rattle.wh_log.proofs.Loops.{with_names}
use Rattle.wh_log.proofs.read_event.stops.Given as goal

abbrev pub invariant-loop-word : goal.invariant-loop-word
invariant-loop-word l = with_names l.names.items (names_at l.words) ≡ names_at l.fn.words

abbrev pub decreases-loop-word : goal.decreases-loop-word
decreases-loop-word l = length l.words
