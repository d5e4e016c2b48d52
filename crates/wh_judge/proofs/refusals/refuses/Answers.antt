use Rattle.wh_judge.proofs.refusals.refuses.Goals as goal

pub returns-in-TasksFull-Submit-clause-refuses : goal.returns-in-TasksFull-Submit-clause-refuses
returns-in-TasksFull-Submit-clause-refuses c =
    rw (c.in-TasksFull-Submit.is-0, c.in-TasksFull-Submit.is-1) (rw c.stops-in-TasksFull-Submit.ensures at c.is_full.ensures)

pub returns-in-NoPath-Request-clause-refuses : goal.returns-in-NoPath-Request-clause-refuses
returns-in-NoPath-Request-clause-refuses c = rw (c.in-NoPath-Request.is-0, c.in-NoPath-Request.is-1) c.has_no_path.ensures.lacks
