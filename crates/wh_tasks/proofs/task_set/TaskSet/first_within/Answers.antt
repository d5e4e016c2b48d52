use Rattle.wh_tasks.specs.Firsts.{FirstWithin}
use Rattle.wh_tasks.proofs.Nearby.{field-before, within-none}
use Rattle.wh_tasks.proofs.task_set.TaskSet.first_within.Goals as goal

pub returns-clause-none : goal.returns-clause-none
returns-clause-none g c =
    let grid = g.F.Distances.grid c.args.field.now in
    let source = g.F.Distances.source c.args.field.now in
    let tasks = c.args.self.now.tasks in
    let others = c.args.ends.now in
    let before = c.clear_within-found.ensures in
    let found : FirstWithin grid tasks others source c.args.limit c.beside_within.result =
    field-before (λ f s. FirstWithin f tasks others s c.args.limit c.beside_within.result) grid _ source _ before.grid before.source c.beside_within.ensures.found in
    within-none grid tasks others source c.args.limit c.beside_within.result found
