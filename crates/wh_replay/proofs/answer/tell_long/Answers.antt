use Rattle.wh_replay.proofs.Serving.{tells_rest, tells_begun}
use Rattle.wh_replay.proofs.answer.tell_long.Goals as goal

pub returns-in-Ok : goal.returns-in-Ok
returns-in-Ok g c = tells_rest c.write_line.result _ _ _ _ c.in-Ok.ensures.ok c.write_line.ensures

pub returns-in-Err : goal.returns-in-Err
returns-in-Err g c = tells_begun _ _ _ c.in-Err.ensures.err
