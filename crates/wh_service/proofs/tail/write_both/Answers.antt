use Rattle.wh_service.proofs.Behind.{fault_behind, front_of_both}
use Rattle.wh_service.proofs.tail.write_both.Goals as goal

pub returns-in-Ok-clause-err : goal.returns-in-Ok-clause-err
returns-in-Ok-clause-err g c = fault_behind _ _ _ c.args.line.now c.args.text.now c.write_all-in-Ok.result c.in-Ok.ensures.ok c.write_all-in-Ok.ensures.err

pub returns-in-Err-clause-err : goal.returns-in-Err-clause-err
returns-in-Err-clause-err g c = front_of_both _ _ c.args.line.now c.args.text.now c.in-Err.ensures.err
