use Rattle.std.proofs.Common.{List, ◌∙◌, ap, subst}
use Rattle.wh_lines.specs.Output.{WritesFront}
use Rattle.wh_lines.proofs.Written.{on_err_of}
use Rattle.wh_replay.specs.Answers.{text_of}
use Rattle.wh_order.specs.declared.visit.Told.{Told}
use Rattle.wh_dispatch.specs.Crews.{Crew}
use Rattle.wh_dispatch.specs.Lines.{visit_lines, go_lines}
use Rattle.wh_dispatch.specs.Visiting.{due_visits}
use Rattle.wh_dispatch.proofs.Texts.{on_err, front_before, front_then}
use Rattle.wh_dispatch.proofs.line.tell_gone.Goals as goal

pub returns-in_err-tell_visits-clause-err : goal.returns-in_err-tell_visits-clause-err
returns-in_err-tell_visits-clause-err g c =
    let a = g.W.Write.contents c.args.writer.now in
    let b = g.W.Write.contents c.tell_visits.new.writer in
    let v = c.args.vehicles.now in
    let due = due_visits c.args.warehouse.now.book.opening.clock c.args.warehouse.now.book.state.tasks v.order.vehicles v.pending in
    on_err_of _ (front_before a b (visit_lines due) (go_lines v.told) c.in_err-tell_visits.ensures.err)

pub returns-clause-err : goal.returns-clause-err
returns-clause-err g c =
    let a = g.W.Write.contents c.args.writer.now in
    let b = g.W.Write.contents c.tell_visits.new.writer in
    let z = g.W.Write.contents c.tell_steps.new.writer in
    let v = c.args.vehicles.now in
    let due = due_visits c.args.warehouse.now.book.opening.clock c.args.warehouse.now.book.state.tasks v.order.vehicles v.pending in
    on_err c.tell_steps.result (λ w. front_then a b z (visit_lines due) (go_lines v.told) c.in_ok-tell_visits.ensures.ok
    (subst (λ (ts : List Told). WritesFront b z (text_of (go_lines ts))) (c.told.ensures ∙ ap (λ (x : Crew). x.told) c.tell_visits.ensures.same) w)) c.tell_steps.ensures.err
