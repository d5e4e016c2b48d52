use Rattle.std.proofs.Common.{◌≡◌, ◌≤◌, ◌+◌, ◌-◌, length}
use Rattle.std.specs.Io.KnownBytes.{Keeps}
use Rattle.wh_lines.proofs.Parts.{Begun}
use Rattle.wh_lines.proofs.next.gather.Given as goal

abbrev pub invariant-loop-line : goal.invariant-loop-line
invariant-loop-line g l = record {
  begun : Begun l.fn.lines l.lines l.line;
  reads : l.fn.lines.reads ≤ l.lines.reads;
  failed : l.lines.failed ≡ l.fn.lines.failed;
  ended : l.lines.ended ≡ l.fn.lines.ended;
  writer : Keeps (g.W.Write.contents l.fn.writer) (g.W.Write.contents l.writer);
}

-- each round takes all that waits, or makes one more read
abbrev pub decreases-loop-line : goal.decreases-loop-line
decreases-loop-line g l = (100000000 - l.lines.reads) + length l.lines.waiting
