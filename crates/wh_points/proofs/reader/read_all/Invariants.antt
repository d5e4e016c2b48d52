use Rattle.std.proofs.Common.{◌≡◌, length}
use Rattle.wh_points.specs.PointFiles.{layout_from, empty}
use Rattle.wh_text.specs.Lines.{lines_of}
use Rattle.wh_points.proofs.reader.read_all.Given as goal

abbrev pub invariant-loop-line : goal.invariant-loop-line
invariant-loop-line l = layout_from l.fn.grid l.draft l.lines.count l.lines.lines ≡ layout_from l.fn.grid empty 0 (lines_of l.fn.text)

abbrev pub decreases-loop-line : goal.decreases-loop-line
decreases-loop-line l = length l.lines.lines
