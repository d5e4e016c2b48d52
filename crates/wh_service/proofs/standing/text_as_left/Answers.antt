use Rattle.std.proofs.Common.{◌∙◌, inr}
use Rattle.wh_service.proofs.Stood.{as_left, not_left}
use Rattle.wh_service.proofs.standing.text_as_left.Goals as goal

pub stopped_text-told-requires-clause-each : goal.stopped_text-told-requires-clause-each
stopped_text-told-requires-clause-each c = rw c.as_slice.ensures.value (c.in-Ok.ensures.all ∙ c.requires.each)

pub returns-in-Ok-told-clause-ok : goal.returns-in-Ok-told-clause-ok
returns-in-Ok-told-clause-ok c =
    as_left c.args.resumed.now.book.site c.args.log.now c.args.order.now c.in-Ok.places.items c.in-Ok-steps_of.steps.items c.as_slice.result.now c.as_slice-2.result.now c.as_slice.ensures.value c.as_slice-2.ensures.value c.in-Ok.ensures c.in-Ok-steps_of.ensures
    c.in-Ok-told.told.items c.in-Ok-told.ensures.ok

pub returns-in-Err-clause-fault : goal.returns-in-Err-clause-fault
returns-in-Err-clause-fault c =
    inr (not_left c.args.resumed.now.book.site c.args.log.now c.args.order.now c.in-Ok.places.items c.in-Ok-steps_of.steps.items c.as_slice.result.now c.as_slice-2.result.now c.as_slice.ensures.value c.as_slice-2.ensures.value c.in-Ok.ensures c.in-Ok-steps_of.ensures
    c.in-Err.fault c.in-Err.ensures.fault c.trouble_of.result c.trouble_of.ensures)
