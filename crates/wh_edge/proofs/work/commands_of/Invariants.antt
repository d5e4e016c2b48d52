use Rattle.std.proofs.Common.{length}
use Rattle.wh_text.specs.Lines.{lines_of}
use Rattle.wh_edge.proofs.Scripts.{Reads}
use Rattle.wh_edge.proofs.work.commands_of.Given as goal

abbrev pub invariant-loop-line : goal.invariant-loop-line
invariant-loop-line l = Reads (lines_of l.fn.script) l.lines l.commands.items

abbrev pub decreases-loop-line : goal.decreases-loop-line
decreases-loop-line l = length l.lines.lines
