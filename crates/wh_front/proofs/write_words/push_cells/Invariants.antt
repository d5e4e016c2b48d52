use Rattle.std.proofs.Common.{◌≡◌, ◌++◌, take, map}
use Rattle.wh_log.specs.Spaced.{spaced}
use Rattle.wh_log.specs.Spelling.{cell_word}
use Rattle.wh_front.proofs.write_words.push_cells.Given as goal

abbrev pub invariant-loop-cell : goal.invariant-loop-cell
invariant-loop-cell l = l.out.items ≡ l.fn.out.items ++ spaced (map cell_word (take l.cell-index l.cells))
