-- what a builder keeps, from part to part
use Rattle.std.proofs.Common.{◌≡◌, ℕ, ◌<◌, List, length, sym, subst, ap, arith}
use Rattle.std.proofs.lemmas.List.{length_push}
use Rattle.wh_grid.specs.declared.cell.Cell.{Cell}
use Rattle.wh_points.specs.Points.{Site}
use Rattle.wh_tasks.specs.declared.task.Task.{Task}
use Rattle.wh_core.specs.States.{State}
use Rattle.wh_core.specs.Steps.{most_tasks}
use Rattle.wh_core.specs.Laws.{IsSound, IsBeginning}
use Rattle.wh_stand.specs.Parts.{Parts, parts_of, with_agent, with_task}
use Rattle.wh_stand.specs.Columns.{IsTold, AllKnown}
use Rattle.wh_stand.specs.TaskFlaws.{IsInForm, IsFitTask}
use Rattle.wh_stand.specs.Flawless.{AreFlawless, IsFitAgent}
use Rattle.wh_stand.specs.Building.{IsWell}
use Rattle.wh_stand.proofs.Adding.{flawless-agent, flawless-task}
use Rattle.wh_stand.proofs.Soundness.{flawless-sound}

pub well-known : (site : Site) (s : State) → IsWell site s → AllKnown s
well-known site s well n task is agent has = (well.flawless.tasks n task is).known agent has

pub well-agent : (site : Site) (old new : State) (slots : ℕ) (path : List Cell) → IsWell site old → IsFitAgent site (parts_of old) path →
    parts_of new ≡ with_agent slots path (parts_of old) → IsTold new → IsWell site new
well-agent site old new slots path well fit e told =
    let size = length_push old.paths path in
    let paths = ap (λ (p : Parts). length p.paths) e in
    let room = fit.room in
    record {
      layout = well.layout;
      few = omega arith;
      flawless = subst (λ p. AreFlawless site p) (sym e) (flawless-agent site (parts_of old) slots path well.flawless fit.fit);
      told = told;
    }

pub well-task : (site : Site) (old new : State) (task : Task) → IsWell site old → IsInForm task → length old.tasks < most_tasks → IsFitTask site.layout (parts_of old) task →
    parts_of new ≡ with_task task (parts_of old) → IsTold new → IsWell site new
well-task site old new task well form room fit e told =
    let paths = ap (λ (p : Parts). length p.paths) e in
    let few = well.few in
    record {
      layout = well.layout;
      few = omega arith;
      flawless = subst (λ p. AreFlawless site p) (sym e) (flawless-task site (parts_of old) task well.flawless form room fit);
      told = told;
    }

-- with all agents it is one from which a run may begin
pub well-beginning : (site : Site) (s : State) → IsWell site s → length s.paths ≡ length site.layout.agents → IsBeginning site s
well-beginning site s well size = record {
  layout = well.layout;
  sound = subst (λ t. IsSound site t) (sym well.told) (flawless-sound site (parts_of s) size well.flawless);
}
