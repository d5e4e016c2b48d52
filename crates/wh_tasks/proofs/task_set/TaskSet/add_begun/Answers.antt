use Rattle.std.proofs.Common.{◌≡◌, ◌<◌, length, ap}
use Rattle.wh_tasks.proofs.SetLemmas.{indexed-begun}
use Rattle.wh_tasks.proofs.task_set.TaskSet.add_begun.Goals as goal

pub invariant_of-self : goal.invariant_of-self
invariant_of-self c =
    let s = c.self.inside in
    let tasks = s.tasks.items in
    let t : tasks ≡ c.args.self.now.tasks = ap (λ s. s.tasks) c.self.view_is in
    let few : length tasks < 1000000 = rw t c.requires.few in
    let whole = indexed-begun tasks s.counts s.ends s.stops.stops s.firsts.items s.bars.items s.clear c.grow.new.self c.args.task 0 c.self.invariant.0 c.requires.orderly c.requires.begun few
    c.grow.ensures.members c.grow.ensures.bound in
    (rw (c.push_reserved.ensures.items, c.push_reserved-2.ensures.items, c.push_reserved-3.ensures.items, c.add.ensures, c.phase.ensures) whole, λ no. cc)
