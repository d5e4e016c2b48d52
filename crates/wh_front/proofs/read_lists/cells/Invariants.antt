use Rattle.std.proofs.Common.{◌≡◌, length}
use Rattle.wh_front.specs.Reading.{cells_of}
use Rattle.wh_front.proofs.ReadLoops.{with_front}
use Rattle.wh_front.proofs.read_lists.cells.Given as goal

abbrev pub invariant-loop-word : goal.invariant-loop-word
invariant-loop-word l = with_front l.cells.items (cells_of l.words) ≡ cells_of l.fn.words

abbrev pub decreases-loop-word : goal.decreases-loop-word
decreases-loop-word l = length l.words
