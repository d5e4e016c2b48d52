use Rattle.std.proofs.Common.{◌≡◌, length}
use Rattle.wh_front.specs.ReadTasks.{clocks_at}
use Rattle.wh_front.proofs.ReadLoops.{with_clocks}
use Rattle.wh_front.proofs.read_task.clocks.Given as goal

abbrev pub invariant-loop-word : goal.invariant-loop-word
invariant-loop-word l = with_clocks l.visits (clocks_at l.words) ≡ clocks_at l.fn.words

abbrev pub decreases-loop-word : goal.decreases-loop-word
decreases-loop-word l = length l.words
