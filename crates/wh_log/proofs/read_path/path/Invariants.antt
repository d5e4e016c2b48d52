use Rattle.std.proofs.Common.{◌≡◌, length}
use Rattle.wh_log.specs.Reading.{cells_of, path_of}
use Rattle.wh_log.proofs.Loops.{with_cells}
use Rattle.wh_log.proofs.read_path.path.Given as goal

abbrev pub invariant-loop-word : goal.invariant-loop-word
invariant-loop-word l = with_cells l.path (cells_of l.last l.words) ≡ path_of l.fn.words

abbrev pub decreases-loop-word : goal.decreases-loop-word
decreases-loop-word l = length l.words
