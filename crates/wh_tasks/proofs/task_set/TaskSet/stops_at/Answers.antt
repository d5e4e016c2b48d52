use Rattle.std.proofs.Common.{◌≡◌, ap}
use Rattle.wh_tasks.proofs.Choosing.{delivery-stop}
use Rattle.wh_tasks.proofs.Listing.{stop-told}
use Rattle.wh_tasks.proofs.task_set.TaskSet.stops_at.Goals as goal

pub returns-clause-stop : goal.returns-clause-stop
returns-clause-stop c =
    let s = c.self.inside in
    let t : s.tasks.items ≡ c.args.self.now.tasks = ap (λ s. s.tasks) c.self.view_is in
    rw (c.is_some.ensures, ← t) (stop-told s.tasks.items s.firsts.items s.stops.stops c.args.cell c.first.result c.self.invariant.0.stops_are c.first.ensures.some c.first.ensures.none)

pub returns-clause-delivery : goal.returns-clause-delivery
returns-clause-delivery c some =
    let s = c.self.inside in
    let tasks = s.tasks.items in
    let t : tasks ≡ c.args.self.now.tasks = ap (λ s. s.tasks) c.self.view_is in
    let some' = rw (← t) at some in
    rw c.is_some.ensures
    ((stop-told tasks s.firsts.items s.stops.stops c.args.cell c.first.result c.self.invariant.0.stops_are c.first.ensures.some c.first.ensures.none).1
    (some'.0, some'.1, some'.2, some'.3, delivery-stop tasks some'.0 some'.1 c.args.cell c.self.invariant.0.orderly some'.2 some'.4))
