use Rattle.std.proofs.Common.{◌≡◌, ℕ, List, ap, sym, ◌∙◌, subst}
use Rattle.std.specs.Prelude.{Some, slice_get}
use Rattle.std.proofs.Math.ListN.{set}
use Rattle.std.proofs.lemmas.Option.{same_Some}
use Rattle.wh_tasks.specs.declared.task.Load.{Load}
use Rattle.wh_tasks.specs.declared.task.Task.{Task}
use Rattle.wh_tasks.specs.Tasks.{IsTask}
use Rattle.wh_tasks.specs.Changes.{assigned, IsOrderly}
use Rattle.wh_core.specs.States.{adopted}
use Rattle.wh_core.specs.States as states
use Rattle.wh_state.specs.Standings.{Standing}
use Rattle.wh_state.proofs.NextStops.{others-adopted, others-assigned}
use Rattle.wh_state.proofs.Ties.{tied-assigned}
use Rattle.wh_state.proofs.StandingLemmas.{same-state, sound-assigned}
use Rattle.wh_state.proofs.state.FleetState.assign.Goals as goal

-- the tasks after one of them was given to an agent
tasks-assigned : (tasks new : List Task) (agent n : ℕ) (task : Task) → IsTask tasks n task → (t : Task) × IsTask tasks n t × (new ≡ set tasks n (assigned agent t)) →
    new ≡ set tasks n (assigned agent task)
tasks-assigned tasks new agent n task there after =
    after.2 ∙ ap (λ (t : Task). set tasks n (assigned agent t)) (same_Some after.0 task (sym after.1 ∙ there))

pub note_due-requires-clause-tied : goal.note_due-requires-clause-tied
note_due-requires-clause-tied c =
    let f = c.self.inside in
    let task = c.requires.is_open.0 in
    let there : IsTask f.tasks.tasks c.args.n task = ap (λ (v : Standing). slice_get v.state.tasks c.args.n) c.self.view_is ∙ c.requires.is_open.1 in
    let same : c.task-task.result.now ≡ task = same_Some c.task-task.result.now task (sym c.task-task.ensures.task ∙ there) in
    let idle : slice_get f.loads.items c.args.agent ≡ Some Load.None = ap (λ (v : Standing). slice_get v.state.loads c.args.agent) c.self.view_is ∙ c.requires.idle in
    rw (c.deref.ensures.value, tasks-assigned f.tasks.tasks c.assign.new.self.tasks c.args.agent c.args.n task there (rw c.adopt.ensures.tasks at c.assign.ensures.tasks))
    (tied-assigned f.loads.items f.tasks.tasks c.args.agent c.args.n task c.self.invariant.0.tied (subst IsOrderly same c.task-task.ensures.orderly) idle there c.requires.is_open.2)

pub note_due-requires-clause-others : goal.note_due-requires-clause-others
note_due-requires-clause-others c =
    let f = c.self.inside in
    let task = c.requires.is_open.0 in
    let there : IsTask f.tasks.tasks c.args.n task = ap (λ (v : Standing). slice_get v.state.tasks c.args.n) c.self.view_is ∙ c.requires.is_open.1 in
    rw (tasks-assigned f.tasks.tasks c.assign.new.self.tasks c.args.agent c.args.n task there (rw c.adopt.ensures.tasks at c.assign.ensures.tasks), c.paths.ensures, c.adopt.ensures.paths)
    (others-assigned c.args.agent f.clock (set f.paths c.args.agent c.args.path) f.tasks.tasks f.dues c.args.n task there
    (others-adopted c.args.agent f.clock f.paths f.tasks.tasks f.dues c.args.path c.self.invariant.1))

pub invariant_of-self : goal.invariant_of-self
invariant_of-self c =
    let f = c.self.inside in
    let task = c.requires.is_open.0 in
    let there : IsTask f.tasks.tasks c.args.n task = ap (λ (v : Standing). slice_get v.state.tasks c.args.n) c.self.view_is ∙ c.requires.is_open.1 in
    let same : c.task-task.result.now ≡ task = same_Some c.task-task.result.now task (sym c.task-task.ensures.task ∙ there) in
    let idle : slice_get f.loads.items c.args.agent ≡ Some Load.None = ap (λ (v : Standing). slice_get v.state.loads c.args.agent) c.self.view_is ∙ c.requires.idle in (
      rw (tasks-assigned f.tasks.tasks c.assign.new.self.tasks c.args.agent c.args.n task there (rw c.adopt.ensures.tasks at c.assign.ensures.tasks), c.adopt.ensures.paths, c.assign.ensures.ends, c.adopt.ensures.ends)
          (sound-assigned f.clock f.paths f.tasks.ends f.loads.items f.slots.items f.tasks.tasks c.args.agent c.args.n c.args.path task
          (subst IsOrderly same c.task-task.ensures.orderly) idle there c.requires.is_open.2 c.self.invariant.0),
      rw c.paths.ensures at c.note_due.ensures,
    )

pub returns : goal.returns
returns c =
    let f = c.self.inside in
    let task = c.requires.is_open.0 in
    let there : IsTask f.tasks.tasks c.args.n task = ap (λ (v : Standing). slice_get v.state.tasks c.args.n) c.self.view_is ∙ c.requires.is_open.1 in (
      task,
      c.requires.is_open.1,
      same-state _ _ _ _ _ _ _ _ _ c.adopt.ensures.paths (λ i. set f.loads.items c.args.agent (Load.Fetching c.args.n))
          (tasks-assigned f.tasks.tasks c.assign.new.self.tasks c.args.agent c.args.n task there (rw c.adopt.ensures.tasks at c.assign.ensures.tasks))
          ∙ ap (λ (v : Standing). adopted c.args.agent c.args.path (states.assigned c.args.agent c.args.n task v.state)) c.self.view_is,
    )
