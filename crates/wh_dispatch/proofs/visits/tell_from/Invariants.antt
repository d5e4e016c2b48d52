use Rattle.std.proofs.Common.{◌≤◌, ◌-◌}
use Rattle.std.specs.Prelude.{take}
use Rattle.std.specs.Io.KnownBytes.{Appends}
use Rattle.wh_replay.specs.Answers.{text_of}
use Rattle.wh_dispatch.specs.Lines.{visit_lines}
use Rattle.wh_dispatch.specs.Visiting.{visits_from}
use Rattle.wh_dispatch.proofs.visits.tell_from.Given as goal

abbrev pub invariant-loop-visit : goal.invariant-loop-visit
invariant-loop-visit g l = record {
  low : l.first ≤ l.visit;
  told : Appends (g.W.Write.contents l.fn.writer) (g.W.Write.contents l.writer) (text_of (take (l.visit - l.first) (visit_lines (visits_from l.agent l.task l.first (l.end - l.first)))));
}
