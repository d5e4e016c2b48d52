use Rattle.std.proofs.Common.{inr}
use Rattle.wh_service.proofs.Stood.{each_stood}
use Rattle.wh_service.proofs.standing.text_standing.Goals as goal

pub text_as_left-told-requires-clause-each : goal.text_as_left-told-requires-clause-each
text_as_left-told-requires-clause-each c = each_stood c.args.resumed.now.book 1 c.args.resumed.now.preface c.args.reports.now c.in-Ok.stood c.in-Ok.ensures.ok

pub returns-in-Ok-told-clause-ok : goal.returns-in-Ok-told-clause-ok
returns-in-Ok-told-clause-ok c = record { stood = c.in-Ok.stood; stands = c.in-Ok.ensures.ok; is = c.in-Ok-told.ensures.ok }

pub returns-in-Err-clause-fault : goal.returns-in-Err-clause-fault
returns-in-Err-clause-fault c = inr (record { stood = c.in-Ok.stood; stands = c.in-Ok.ensures.ok; why = c.in-Err.ensures.fault })
