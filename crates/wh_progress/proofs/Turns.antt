-- what a step does to what is left to do: it brings it down, or it changes no path and no task that was there. Nothing is said
-- here of what is left but that it is a number, with another that stands for what was added.
use Rattle.std.proofs.Common.{◌≡◌, ◌≢◌, ℕ, ◌+◌, ◌<◌, ◌≤◌}
use Rattle.wh_path.specs.Paths.{horizon}
use Rattle.wh_points.specs.Points.{Site}
use Rattle.wh_tasks.specs.declared.task.Task.{Task}
use Rattle.wh_tasks.specs.Tasks.{IsTask}
use Rattle.wh_tasks.specs.declared.task.Load.{Load}
use Rattle.wh_core.specs.States.{State, load_of}
use Rattle.wh_core.specs.Steps.{IsDue}
use Rattle.wh_progress.specs.Progress.{MayRest}
use Rattle.wh_event.specs.declared.event.Event.{Event}
use Rattle.wh_event.specs.declared.reply.Refusal.{Refusal}
use Rattle.wh_event.specs.declared.reply.Reply.{Reply}

-- no more is left, but for what was added
abbrev pub NoMore : (State → ℕ) → (State → ℕ) → State → State → Type 0
NoMore left added old new = left new + added old ≤ left old + added new

-- less is left, but for what was added
abbrev pub Less : (State → ℕ) → (State → ℕ) → State → State → Type 0
Less left added old new = left new + added old < left old + added new

-- the paths are as they were, each task that was there is as it was, who had no load has none, and if the clock went on, nobody had a step left
pub record AreKept (old new : State) : Type 0 where
  pub paths : new.paths ≡ old.paths
  pub tasks : (n : ℕ) (task : Task) → IsTask old.tasks n task → IsTask new.tasks n task
  pub loads : (agent : ℕ) → load_of old agent ≡ Load.None → load_of new agent ≡ Load.None
  pub clock : old.clock < new.clock → horizon old.paths ≡ 0

-- an agent that was due and asked may rest, if it was not refused for lack of a path
abbrev pub Rests : Site → Reply → Event → State → Type 0
Rests site reply event s = (agent : ℕ) → event ≡ Event.Request agent → reply ≢ Reply.Refused Refusal.NoPath → IsDue site s agent → MayRest site s agent

pub data Turn (site : Site) (left added : State → ℕ) (reply : Reply) (event : Event) (old new : State) : Type 0 where
  brings : Less left added old new → Turn site left added reply event old new
  keeps : NoMore left added old new → AreKept old new → Rests site reply event old → Turn site left added reply event old new
