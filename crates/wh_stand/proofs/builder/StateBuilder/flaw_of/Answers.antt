use Rattle.std.proofs.Common.{subst}
use Rattle.std.specs.Prelude.{IfSome}
use Rattle.wh_stand.specs.Parts.{Built}
use Rattle.wh_stand.specs.TaskFlaws.{IsTaskFlaw}
use Rattle.wh_stand.proofs.builder.StateBuilder.flaw_of.Goals as goal

pub returns-clause-some : goal.returns-clause-some
returns-clause-some c =
    subst (λ (b : Built). IfSome c.task_flaw.result (IsTaskFlaw b.site.layout b.parts c.args.task.now)) c.self.view_is c.task_flaw.ensures.some
