-- Which line may come next, and what it tells. Private: what is found is said by Fronts.
use Rattle.std.specs.Prelude.{ℕ, Bool, true, false, List, [], ◌∷◌, ◌++◌, length, Option, Some, None, nat_lt, cond}
use Rattle.wh_front.specs.declared.before.Before.TheVariants.{Nothing}
use Rattle.wh_front.specs.declared.rules.Kind.TheVariants.{Whole}
use Rattle.wh_front.specs.declared.front.Front.{Front}
use Rattle.wh_front.specs.declared.line.Line.{Line}
use Rattle.wh_front.specs.declared.line.Line.TheVariants as lines
use Rattle.wh_front.specs.declared.stage.Stage.{Stage}
use Rattle.wh_front.specs.declared.stage.Stage.TheVariants as stages

-- the front of which nothing was read
abbrev pub empty : Front
empty = record {
  before = Nothing;
  rules = record { homes = false; age = None };
  clock = 0;
  closed = false;
  kind = Whole;
  counts = [];
  seats = [];
  tasks = [];
}

-- a front with what a line tells
abbrev pub with_line : Front → Line → Front
with_line f (lines.Before before) = record f { before = before }
with_line f (lines.Rules rules) = record f { rules = rules }
with_line f (lines.State clock closed kind) = record f { clock = clock; closed = closed; kind = kind }
with_line f (lines.Entries counts) = record f { counts = counts }
with_line f (lines.Agent seat) = record f { seats = f.seats ++ seat ∷ [] }
with_line f (lines.Task submission) = record f { tasks = f.tasks ++ submission ∷ [] }
with_line f line = f

-- a front as far as it was read, how many agents and tasks there are to be, and what comes next
pub record Draft : Type 0 where
  pub front : Front
  pub agents : ℕ
  pub tasks : ℕ
  pub stage : Stage

abbrev pub nothing : Draft
nothing = record { front = empty; agents = 1; tasks = 0; stage = stages.Title }

-- whether the line may come next
abbrev pub expects : Stage → Line → Bool
expects stages.Title lines.Title = true
expects stages.Before (lines.Before before) = true
expects stages.Rules (lines.Rules rules) = true
expects stages.Rules (lines.State clock closed kind) = true
expects stages.State (lines.State clock closed kind) = true
expects stages.Entries (lines.Entries counts) = true
expects stages.Agents (lines.Agents count) = true
expects stages.Seats (lines.Agent seat) = true
expects stages.Tasks (lines.Tasks count) = true
expects stages.Submissions (lines.Task submission) = true
expects stages.Begin lines.Begin = true
expects _ _ = false

abbrev pub is_done : Stage → Bool
is_done stages.Done = true
is_done _ = false

abbrev pub behind_seat : ℕ → ℕ → Stage
behind_seat count agents = cond (nat_lt count agents) stages.Seats stages.Tasks

abbrev pub behind_task : ℕ → ℕ → Stage
behind_task count tasks = cond (nat_lt count tasks) stages.Submissions stages.Begin

-- the draft with what the line tells
abbrev pub put : Draft → Line → Draft
put d lines.Title = record d { stage = stages.Before }
put d (lines.Before before) = record d { front = with_line d.front (lines.Before before); stage = stages.Rules }
put d (lines.Rules rules) = record d { front = with_line d.front (lines.Rules rules); stage = stages.State }
put d (lines.State clock closed kind) = record d { front = with_line d.front (lines.State clock closed kind); stage = stages.Entries }
put d (lines.Entries counts) = record d { front = with_line d.front (lines.Entries counts); stage = stages.Agents }
put d (lines.Agents count) = record d { agents = count; stage = stages.Seats }
put d (lines.Agent seat) =
    let front = with_line d.front (lines.Agent seat) in
    record d { front = front; stage = behind_seat (length front.seats) d.agents }
put d (lines.Tasks count) = record d { tasks = count; stage = behind_task 0 count }
put d (lines.Task submission) =
    let front = with_line d.front (lines.Task submission) in
    record d { front = front; stage = behind_task (length front.tasks) d.tasks }
put d lines.Begin = record d { stage = stages.Done }

-- the lines one after the other, where each may come next
abbrev pub run : Draft → List Line → Option Draft
run d [] = Some d
run d (line ∷ lines) = cond (expects d.stage line) (run (put d line) lines) None
