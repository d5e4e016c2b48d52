use Rattle.std.proofs.Common.{◌∙◌, List, length, ap}
use Rattle.wh_event.specs.declared.entry.Entry.{Entry}
use Rattle.wh_log.specs.Told.{told_text}
use Rattle.wh_replay.proofs.Giving.{gives_one, tells_outcome}
use Rattle.wh_replay.proofs.Serving.{serves_one, serves_begun, tells_few}
use Rattle.wh_replay.proofs.answer.obey.Goals as goal

pub returns-clause-ok : goal.returns-clause-ok
returns-clause-ok g c =
    let one = c.run_event-added.ensures.runs in
    let here = ap (λ (entries : List Entry). length entries) c.history-before.ensures.value in
    let now = c.clock-clock.ensures.value in
    let gives = gives_one g.P.Plans.fits_map g.P.Plans.slot_count c.args.asker _ _ c.args.command.now c.args.warehouse.now.book c.args.spares.now.items _ _
    c.run_event-added.result here now c.history-before.ensures.opening c.history-before.ensures.run one in
    let told = tells_outcome (told_text c.args.asker.form) _ _ one.outcome c.run_event-added.result _ _ c.tell_outcome.result _ _ one.added_is one.history c.tell_outcome.ensures.starved
    (λ yes front entry is. c.tell_outcome.ensures.text yes front entry (c.history.ensures.value ∙ is)) in
    serves_one _ _ _ _ _ _ _ _ _ _ _ gives c.tell_outcome.result told

pub returns-clause-few : goal.returns-clause-few
returns-clause-few g c =
    let one = c.run_event-added.ensures.runs in
    tells_few c.tell_outcome.result _ _ _ (tells_outcome (told_text c.args.asker.form) _ _ one.outcome c.run_event-added.result _ _ c.tell_outcome.result _ _ one.added_is one.history c.tell_outcome.ensures.starved
    (λ yes front entry is. c.tell_outcome.ensures.text yes front entry (c.history.ensures.value ∙ is)))

pub returns-clause-err : goal.returns-clause-err
returns-clause-err g c =
    let one = c.run_event-added.ensures.runs in
    let here = ap (λ (entries : List Entry). length entries) c.history-before.ensures.value in
    let now = c.clock-clock.ensures.value in
    let gives = gives_one g.P.Plans.fits_map g.P.Plans.slot_count c.args.asker _ _ c.args.command.now c.args.warehouse.now.book c.args.spares.now.items _ _
    c.run_event-added.result here now c.history-before.ensures.opening c.history-before.ensures.run one in
    let told = tells_outcome (told_text c.args.asker.form) _ _ one.outcome c.run_event-added.result _ _ c.tell_outcome.result _ _ one.added_is one.history c.tell_outcome.ensures.starved
    (λ yes front entry is. c.tell_outcome.ensures.text yes front entry (c.history.ensures.value ∙ is)) in
    serves_begun _ _ _ _ _ _ _ _ _ _ _ gives c.tell_outcome.result told
