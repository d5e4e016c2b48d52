use Rattle.std.proofs.Common.{inl, inr}
use Rattle.wh_attend.proofs.Attended.{unkept}
use Rattle.wh_attend.proofs.Wholes.{all_left, front_left}
use Rattle.wh_attend.proofs.ending.end_run.Goals as goal

pub returns-in-Err-clause-fault : goal.returns-in-Err-clause-fault
returns-in-Err-clause-fault g c = inl (unkept c.in-Err.fault _ c.keep_trouble-trouble.ensures)

-- the last board was not shown
pub returns-clause-fault : goal.returns-clause-fault
returns-clause-fault g c = inr (_, c.in-Err-last.is, c.trouble_of_show-trouble.ensures.value)

pub returns-in-Err-clause-left : goal.returns-in-Err-clause-left
returns-in-Err-clause-left g c = front_left _ _ _ _ _ (search) c.in-Err.ensures.front

pub returns-clause-left : goal.returns-clause-left
returns-clause-left g c = all_left _ _ _ _ _ (search) c.in-Ok.ensures.ok
