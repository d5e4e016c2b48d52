use Rattle.std.proofs.Common.{◌≡◌, length}
use Rattle.wh_front.specs.Reading.{counts_of}
use Rattle.wh_front.proofs.ReadLoops.{with_front}
use Rattle.wh_front.proofs.read_lists.counts.Given as goal

abbrev pub invariant-loop-word : goal.invariant-loop-word
invariant-loop-word l = with_front l.counts (counts_of l.least l.words) ≡ counts_of 0 l.fn.words

abbrev pub decreases-loop-word : goal.decreases-loop-word
decreases-loop-word l = length l.words
