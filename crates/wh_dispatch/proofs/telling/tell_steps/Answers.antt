use Rattle.std.proofs.Common.{subst}
use Rattle.std.specs.Io.KnownBytes.{Appends}
use Rattle.wh_lines.specs.Output.{WritesFront}
use Rattle.wh_lines.proofs.Written.{on_err_of}
use Rattle.wh_replay.specs.Answers.{reply_line}
use Rattle.wh_order.specs.declared.visit.Told.{Told}
use Rattle.wh_vehicles.specs.Notices.{notice_text}
use Rattle.wh_vehicles.specs.declared.notice.Notice.{Notice}
use Rattle.wh_dispatch.proofs.Texts.{steps_front, steps_more}
use Rattle.wh_dispatch.proofs.telling.tell_steps.Goals as goal

abbrev none : Told
none = record { agent = 0; step = 0; cell = record { x = 0; y = 0 } }

pub returns-in_err-tell_notice-clause-err : goal.returns-in_err-tell_notice-clause-err
returns-in_err-tell_notice-clause-err g c =
    let before = g.W.Write.contents c.loop-step.writer in
    let after = g.W.Write.contents c.tell_notice.new.writer in
    on_err_of _ (steps_front (g.W.Write.contents c.args.writer.now) before after c.args.steps.now c.loop-step.step-index none c.loop-step-test.true c.loop-step.invariant
    (subst (λ (n : Notice). WritesFront before after (reply_line (notice_text n))) c.going.ensures c.in_err-tell_notice.ensures.err))

pub loop-step-preserved : goal.loop-step-preserved
loop-step-preserved g c =
    let before = g.W.Write.contents c.loop-step.writer in
    let after = g.W.Write.contents c.tell_notice.new.writer in
    steps_more (g.W.Write.contents c.args.writer.now) before after c.args.steps.now c.loop-step.step-index none c.loop-step-test.true c.loop-step.invariant
    (subst (λ (n : Notice). Appends before after (reply_line (notice_text n))) c.going.ensures c.in_ok-tell_notice.ensures.ok)
