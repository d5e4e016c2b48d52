use Rattle.std.proofs.Common.{◌++◌, ◌∷◌, [], ◌∙◌, ap, sym}
use Rattle.wh_tasks.specs.declared.task.Task.{Task}
use Rattle.wh_tasks.proofs.Choosing.{none-is, some-not}
use Rattle.wh_tasks.proofs.SetLemmas.{fresh-is}
use Rattle.wh_tasks.proofs.task_set.TaskSet.add.Goals as goal

pub add_begun-requires-clause-begun : goal.add_begun-requires-clause-begun
add_begun-requires-clause-begun c = some-not c.args.task.agent (sym c.is_some.ensures ∙ c.if-is_some.true)

pub returns-clause-tasks : goal.returns-clause-tasks
returns-clause-tasks c =
    c.submit-number.ensures.tasks
    ∙ ap (λ (t : Task). c.args.self.now.tasks ++ t ∷ []) (fresh-is c.args.task c.requires.orderly (none-is c.args.task.agent (sym c.is_some.ensures ∙ c.if-is_some.false)))
