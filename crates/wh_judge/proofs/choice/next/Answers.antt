use Rattle.std.proofs.Common.{sym}
use Rattle.wh_judge.proofs.Choices.{choice-by}
use Rattle.wh_judge.proofs.choice.next.Goals as goal

pub returns-clause-choice : goal.returns-clause-choice
returns-clause-choice c =
    choice-by c.args.instance.now c.args.floor.now.state c.args.agent _ c.next_task.result (sym c.requires.grid) c.next_task.ensures.none c.next_task.ensures.next
