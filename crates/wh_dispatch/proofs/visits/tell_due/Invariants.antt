use Rattle.std.proofs.Common.{take}
use Rattle.std.specs.Io.KnownBytes.{Appends}
use Rattle.wh_replay.specs.Answers.{text_of}
use Rattle.wh_dispatch.specs.Lines.{visit_lines}
use Rattle.wh_dispatch.specs.Visiting.{due_visits}
use Rattle.wh_dispatch.proofs.visits.tell_due.Given as goal

abbrev pub invariant-loop-one : goal.invariant-loop-one
invariant-loop-one g l = Appends (g.W.Write.contents l.fn.writer) (g.W.Write.contents l.writer)
    (text_of (visit_lines (due_visits l.warehouse.book.opening.clock l.warehouse.book.state.tasks l.order.vehicles (take l.one-index l.pending))))
