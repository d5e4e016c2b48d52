-- how much is left to do on a site, rounds, which bring it down, and where all stands still; with homes and without
use Rattle.std.specs.Prelude.{◌≡◌, ◌≢◌, ℕ, ◌+◌, ◌-◌, ◌*◌, ◌<◌, ◌≤◌, List, [], ◌∷◌, Bool, true, false, ◌&&◌, ◌||◌, length, map, count_by, take, drop, All, Contains}
use Rattle.wh_grid.specs.declared.cell.Cell.{Cell}
use Rattle.wh_grid.specs.Cells.{is_cell}
use Rattle.wh_grid.specs.Grids.{passable_cells}
use Rattle.wh_path.specs.Paths.{end, place_of, end_of, steps_left, horizon}
use Rattle.wh_points.specs.Points.{Site}
use Rattle.wh_tasks.specs.declared.task.Task.{Task}
use Rattle.wh_tasks.specs.declared.task.Phase.{Phase}
use Rattle.wh_tasks.specs.Tasks.{phase, delivery}
use Rattle.wh_tasks.specs.Changes.{is_phase, count_in}
use Rattle.wh_core.specs.States.{State}
use Rattle.wh_core.specs.Steps.{Run, IsDue, NoneIsNext, IsRestCell}
use Rattle.wh_core.specs.Laws.{AreTwo}
use Rattle.wh_event.specs.declared.event.Event.{Event}
use Rattle.wh_event.specs.declared.reply.Refusal.{Refusal}
use Rattle.wh_event.specs.declared.reply.Reply.{Reply}
use Rattle.wh_event.specs.declared.entry.Entry.{Entry}

-- whether an open task is to be delivered at the cell
abbrev pub is_awaited : List Task → Cell → Bool
is_awaited [] cell = false
is_awaited (task ∷ tasks) cell = (is_phase Phase.Open (phase task) && is_cell cell (delivery task)) || is_awaited tasks cell

-- how many agents' paths end where an open task is to be delivered
abbrev pub in_way : State → ℕ
in_way s = count_by (λ path. is_awaited s.tasks (end path)) s.paths

-- how many tasks are open
abbrev pub open_tasks : State → ℕ
open_tasks s = count_in Phase.Open s.tasks

-- each task has at most so many stops
abbrev pub HaveAtMost : ℕ → State → Type 0
HaveAtMost stops s = All (λ task. length task.stops ≤ stops) s.tasks

-- The task's stops are at two cells at most: its last stop's, and one other. So it is with two stops, and from a shelf to a station and
-- back.
abbrev pub IsOfTwoPlaces : Task → Type 0
IsOfTwoPlaces task = (c d : Cell) → Contains task.stops c → Contains task.stops d → c ≢ delivery task → d ≢ delivery task → c ≡ d

-- each task is so
abbrev pub AreOfTwoPlaces : State → Type 0
AreOfTwoPlaces s = All IsOfTwoPlaces s.tasks

-- how many legs a path has for a task with so many stops: one for each, and one home if paths go on home
abbrev pub legs : Bool → ℕ → ℕ
legs false stops = stops
legs true stops = stops + 1

-- one more than such a path may take longer than the others still move: a pass over the map for each leg
abbrev pub span : Site → ℕ → ℕ
span site stops = legs site.homes stops * passable_cells site.grid + 1

-- What weighs a span each: an open task twice, since who takes it may come to rest in the way of another's delivery, and an agent
-- whose path ends in such a way once; where paths go on home, an open task once.
abbrev pub weight : Bool → State → ℕ
weight false s = in_way s + 2 * open_tasks s
weight true s = open_tasks s

-- what is left to do, in rounds, where no task has more stops than so many: a span for each that weighs, and what the agents still move
abbrev pub left_to_do : Site → ℕ → State → ℕ
left_to_do site stops s = span site stops * weight site.homes s + horizon s.paths

-- how many steps are left of the paths with which a run began: one fewer at each tick, and none from an opening state on
abbrev pub first_paths_left : State → State → ℕ
first_paths_left beginning s = horizon beginning.paths - (s.clock - beginning.clock)

-- the agent asked
abbrev pub HasAsked : List Entry → ℕ → Type 0
HasAsked entries agent = Contains (map (λ entry. entry.event) entries) (Event.Request agent)

-- A round: the clock goes on, and where a task is open as it begins, each agent that is due then asks; in any order, whatever else is
-- asked between and by whom. Nobody closes.
pub record IsRound (site : Site) (old : State) (entries : List Entry) (new : State) : Type 0 where
  pub run : Run site old entries new
  pub asked : 0 < open_tasks old → (agent : ℕ) → IsDue site old agent → HasAsked entries agent
  pub goes_on : old.clock < new.clock
  pub not_closed : new.closed ≡ false

-- these rounds, one after another, lead from old to new
abbrev pub Rounds : Site → State → List (List Entry) → State → Type 0
Rounds site old [] new = new ≡ old
Rounds site old (round ∷ rounds) new = (mid : State) × IsRound site old round mid × Rounds site mid rounds new

-- no request is refused for lack of a path
abbrev pub FindPaths : List Entry → Type 0
FindPaths entries = All (λ entry. entry.reply ≢ Reply.Refused Refusal.NoPath) entries

-- the agent may be told to rest: no task is there for it, and it may stay where its path ends
pub record MayRest (site : Site) (s : State) (agent : ℕ) : Type 0 where
  pub none : NoneIsNext s agent
  pub stays : IsRestCell site s agent (end_of s.paths agent)

-- all stands still: each agent is at rest, and may be told so
pub record StandsStill (site : Site) (s : State) : Type 0 where
  pub resting : (agent : ℕ) → agent < length s.paths → steps_left s.paths agent ≡ 0
  pub told : (agent : ℕ) → agent < length s.paths → MayRest site s agent

-- all stands still after so many of the rounds
pub record StoodStill (site : Site) (old : State) (rounds : List (List Entry)) (new : State) : Type 0 where
  pub count : ℕ
  pub within : count ≤ length rounds
  pub state : State
  pub before : Rounds site old (take count rounds) state
  pub after : Rounds site state (drop count rounds) new
  pub still : StandsStill site state

-- two different agents are at two of the task's stops, neither of them at its last
pub record IsHeld (s : State) (task : Task) : Type 0 where
  pub one : ℕ
  pub other : ℕ
  pub two : AreTwo s one other
  pub one_there : Contains task.stops (place_of s.paths one)
  pub other_there : Contains task.stops (place_of s.paths other)
  pub one_not_last : place_of s.paths one ≢ delivery task
  pub other_not_last : place_of s.paths other ≢ delivery task

-- each task is done
abbrev pub AllDone : State → Type 0
AllDone s = All (λ task. phase task ≡ Phase.Done) s.tasks
