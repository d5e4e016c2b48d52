use Rattle.std.specs.Prelude.{Bool, false, ◌≡◌, ◌≢◌, ℕ, ◌+◌, ◌<◌, ◌≤◌, List, Some, length, slice_get, All}
use Rattle.wh_points.specs.Points.{Site}
use Rattle.wh_points.specs.Formed.{IsFormed}
use Rattle.wh_tasks.specs.declared.task.Task.{Task}
use Rattle.wh_tasks.specs.declared.task.Load.{Load}
use Rattle.wh_tasks.specs.Tasks.{IsTask, IsOpen}
use Rattle.wh_core.specs.States.{State, arrived, submitted, adopted, assigned, moved, reseated, shut, picked, dropped}
use Rattle.wh_core.specs.Steps.{Step, Run, most_tasks, last_clock}
use Rattle.wh_event.specs.declared.entry.Entry.{Entry}
use Rattle.wh_event.specs.declared.event.Event.{Event}
use Rattle.wh_event.specs.declared.reply.Reply.{Reply}
use Rattle.wh_event.specs.declared.reply.Refusal.{Refusal}
use Rattle.wh_state.specs.Standings.{Standing}
use Rattle.wh_core.specs.Laws.{IsBeginning, AllOnTheirWays}
use Rattle.wh_book.specs.declared.draft.Change.{Change}
use Rattle.wh_book.specs.declared.draft.Draft.{Draft}

-- the change leads from the old state to the new one
abbrev pub Changes : Change → State → State → Type 0
Changes Change.Nothing old new = new ≡ old
Changes (Change.Add client stops) old new = new ≡ submitted client stops old
Changes (Change.Take agent n path) old new =
    (task : Task) × IsTask old.tasks n task × (new ≡ arrived (adopted agent path (assigned agent n task old)))
Changes (Change.Park agent path) old new = new ≡ adopted agent path old
Changes Change.Tick old new = new ≡ arrived (moved old)
Changes (Change.Seat agent slots) old new = new ≡ reseated agent slots old
Changes Change.Shut old new = new ≡ shut old

-- the change names agents and tasks that are there, and has its room
abbrev pub CanChange : Change → Standing → Type 0
CanChange Change.Nothing f = Unit {0}
CanChange (Change.Add client stops) f = (1 ≤ f.room) × (length f.state.tasks < most_tasks)
CanChange (Change.Take agent n path) f =
    (agent < length f.state.paths) × (slice_get f.state.loads agent ≡ Some Load.None)
    × ((task : Task) × IsTask f.state.tasks n task × IsOpen task)
CanChange (Change.Park agent path) f = agent < length f.state.paths
CanChange Change.Tick f = f.state.clock < last_clock
CanChange (Change.Seat agent slots) f = agent < length f.state.paths
CanChange Change.Shut f = Unit {0}

-- The public view of a book: the setting, the opening state, the state, the history that led to it, and for how many
-- more entries and tasks it has room.
pub record Seen : Type 0 where
  pub site : Site
  pub opening : State
  pub state : State
  pub history : List Entry
  pub entry_room : ℕ
  pub task_room : ℕ

-- what a book keeps: with the opening state it may begin, and the history is a run from there to the state
pub record IsKept (site : Site) (opening : State) (history : List Entry) (state : State) : Type 0 where
  pub begins : IsBeginning site opening
  pub run : Run site opening history state

-- and it knows where nobody is a stray any more
pub record IsWatched (site : Site) (opening : State) (history : List Entry) (state : State) (strays : Bool) : Type 0 where
  pub kept : IsKept site opening history state
  pub ways : strays ≡ false → AllOnTheirWays site state

-- The instance is well-formed, and all were on their ways as the run began: so each due agent has a clear way for what it is to do.
pub record HasWaysForAll (site : Site) (opening : State) : Type 0 where
  pub formed : IsFormed site
  pub on_their_ways : AllOnTheirWays site opening

-- the book tells what it told, except for its room
pub record IsSame (old new : Seen) : Type 0 where
  pub site : new.site ≡ old.site
  pub opening : new.opening ≡ old.opening
  pub state : new.state ≡ old.state
  pub history : new.history ≡ old.history

-- The draft may be committed to the book as it is: what its change makes of the state is a step by its entry, and the
-- change can be made with the room that there is.
pub record IsReady (book : Seen) (draft : Draft) : Type 0 where
  pub step : (new : State) → Changes draft.change book.state new → Step book.site book.state draft.entry new
  pub can : CanChange draft.change (record { state = book.state; room = book.task_room })
  pub room : 1 ≤ book.entry_room

-- each draft that may be committed to the old book may be committed to the new one
abbrev pub StaysReady : Seen → Seen → Type 0
StaysReady old new = (draft : Draft) → IsReady old draft → IsReady new draft

-- the draft answers this event of the caller, and may be committed to the book as it is
pub record Drafts (book : Seen) (caller : ℕ) (event : Event) (draft : Draft) : Type 0 where
  pub caller_is : draft.entry.caller ≡ caller
  pub event_is : draft.entry.event ≡ event
  pub ready : IsReady book draft

-- the reply to a tick
abbrev pub ticked : State → Reply
ticked s = Reply.Clock (s.clock + 1) (picked (moved s)) (dropped (moved s))

-- no entry is a refusal for lack of a path
abbrev pub AllServed : List Entry → Type 0
AllServed entries = All (λ entry. entry.reply ≢ Reply.Refused Refusal.NoPath) entries
