use Rattle.wh_core.proofs.Opening.{walk-one}
use Rattle.wh_work_rows.proofs.planner.a_box_plans_as_the_planner_in_it.Goals as goal

pub plan-requires-clause-walk : goal.plan-requires-clause-walk
plan-requires-clause-walk g c =
    let here = rw c.deref.ensures at (c.passable.ensures.0 c.if-not-passable.false) in
    rw (c.in_ok-all.ensures, c.in_ok-one.ensures, c.deref-3.ensures) (walk-one _ _ here)
