use Rattle.std.proofs.Common.{◌<◌, length, sym, subst}
use Rattle.wh_points.specs.Points.{Site}
use Rattle.wh_core.specs.Steps.{most_tasks}
use Rattle.wh_stand.specs.Parts.{Built}
use Rattle.wh_state.specs.Columns.{state_in}
use Rattle.wh_stand.specs.TaskFlaws.{IsFitTask}
use Rattle.wh_stand.proofs.Built.{well-task}
use Rattle.wh_stand.proofs.Contradicting.{task-flaw-none}
use Rattle.wh_stand.proofs.builder.StateBuilder.add_task.Goals as goal

pub returns-in-Some-clause-complete : goal.returns-in-Some-clause-complete
returns-in-Some-clause-complete c = task-flaw-none c.args.self.now.site c.args.self.now.parts c.args.task c.in-Some.flaw c.in-Some.ensures.some

pub invariant_of-self-2 : goal.invariant_of-self-2
invariant_of-self-2 c =
    let site : Site = record { grid = c.self.inside.grid.now; layout = c.self.inside.stations; homes = c.self.inside.homes } in
    let room = subst (λ (b : Built). length b.parts.tasks < most_tasks) (sym c.self.view_is) c.requires.room in
    let fit = subst (λ (b : Built). IsFitTask b.site.layout b.parts c.args.task) (sym c.self.view_is) c.in_default.ensures.none in
    well-task site (state_in c.self.inside.parts) (state_in c.add_task.new.parts) c.args.task c.self.invariant c.requires.form room fit c.in_ok-add_task.ensures.ok c.in_ok-add_task.ensures.told
