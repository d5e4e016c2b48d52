use Rattle.std.proofs.Common.{◌≡◌, ◌≤◌, ◌+◌, ◌-◌, ◌*◌, length}
use Rattle.wh_lines.specs.Section.{Collects}
use Rattle.wh_lines.proofs.sections.collect.Given as goal

abbrev pub invariant-loop-text : goal.invariant-loop-text
invariant-loop-text g l = record {
  collects : Collects l.fn.lines l.lines l.text.items l.start;
  within : l.start ≤ length l.text.items;
  bound : l.start ≤ l.limit;
  reads : l.fn.lines.reads ≤ l.lines.reads;
  failed : l.lines.failed ≡ l.fn.lines.failed;
  ended : l.lines.ended ≡ l.fn.lines.ended;
}

-- each round takes bytes that wait, or makes one more read, which gives no more than 65,536
abbrev pub decreases-loop-text : goal.decreases-loop-text
decreases-loop-text g l = (100000000 - l.lines.reads) * 65537 + length l.lines.waiting
