-- what workers did
use Rattle.std.specs.Prelude.{◌≡◌, ℕ, ◌+◌, ◌<◌, ◌≤◌, Bool, List, [], ◌∷◌, ◌++◌, length, map, reverse, Option, None, Some, slice_get}
use mathlib.Core.List.{IsPrefix}
use Rattle.wh_grid.specs.Grids.{Floor}
use Rattle.wh_event.specs.declared.entry.Entry.{Entry}
use Rattle.wh_event.specs.declared.event.Event.{Event}
use Rattle.wh_event.specs.declared.event.Spare.{Spare}
use Rattle.wh_event.specs.declared.event.Command.{Command}
use Rattle.wh_desk.specs.Fleet.{TellsSpare}
use Rattle.wh_desk.specs.Runs.{TakesLast}
use Rattle.wh_desk.specs.Lists.{AllAt, entries_of, Received}
use Rattle.wh_desk.specs.Calls.{Refuses}
use Rattle.wh_desk.specs.declared.answer.DeskFault.{DeskFault}
use Rattle.wh_crew.specs.declared.worker.Missed.{Missed}
use Rattle.wh_edge.specs.declared.work.Work.{Work}

-- the first list is the second without some of its elements, in the same order
pub data IsSublist {A : Type 0} : List A → List A → Type 0 where
  nothing : IsSublist [] []
  keeps : (x : A) (xs ys : List A) → IsSublist xs ys → IsSublist (x ∷ xs) (x ∷ ys)
  skips : (y : A) (xs ys : List A) → IsSublist xs ys → IsSublist xs (y ∷ ys)

-- the command of an event: what is told of a spare planner left out
abbrev pub command_of : Event → Command
command_of (Event.Submit client stops) = Command.Submit client stops
command_of (Event.Request agent) = Command.Token agent
command_of Event.Tick = Command.Tick
command_of (Event.Replace agent told) = Command.Replace agent
command_of Event.Close = Command.Close

-- the commands that the entries of receipts answer
abbrev pub commands_of : List (ℕ × Entry) → List Command
commands_of receipts = map (λ x. command_of x.1.event) receipts

-- what the event tells of a planner, if it is a Replace
abbrev pub told_by : Event → List Spare
told_by (Event.Replace agent told) = told ∷ []
told_by event = []

-- what the Replaces among the entries of receipts tell of their planners, in order
abbrev pub spares_told : List (ℕ × Entry) → List Spare
spares_told [] = []
spares_told (x ∷ xs) = told_by x.1.event ++ spares_told xs

-- The planners were lent from the end of the list, each once, and these were told; once there was none left, none is told.
abbrev pub LentFromEnd : {X : Type 0} → (X → Floor → Bool) → (X → ℕ) → Floor → List X → List Spare → Type 0
LentFromEnd fits count grid spares told = AllAt (λ i t. TellsSpare fits count grid (slice_get (reverse spares) i) t) told

-- how many calls were missed, for whatever reason
abbrev pub all_missed : Missed → ℕ
all_missed missed = missed.full + missed.memory + missed.other

-- one call more: with no fault it was answered, else it was missed for this reason
abbrev pub counted : Missed → Option DeskFault → Missed
counted missed None = missed
counted missed (Some DeskFault.Full) = record { full = missed.full + 1; memory = missed.memory; other = missed.other }
counted missed (Some DeskFault.NoMemory) = record { full = missed.full; memory = missed.memory + 1; other = missed.other }
counted missed (Some DeskFault.Stale) = record { full = missed.full; memory = missed.memory; other = missed.other + 1 }
counted missed (Some DeskFault.CellTaken) = record { full = missed.full; memory = missed.memory; other = missed.other + 1 }

-- A worker's pass had one list and has another: it went on by entries that answer the commands, in order, without as many
-- as were missed; and their Replaces lent the spares from the end. What it knows of goes on from what it knew of, and where
-- it missed a call since the journal was full, it knows of a history with an entry for each cell. Fits and count
-- say what a planner returns.
pub record Worked {X : Type 0} (fits : X → Floor → Bool) (count : X → ℕ) (grid : Floor) (cells : ℕ) (commands : List Command) (spares : List X)
    (had has : Received) (missed : Missed) : Type 0 where
  pub caller_is : has.caller ≡ had.caller
  pub received : List (ℕ × Entry)
  pub goes_on : has.list ≡ had.list ++ received
  pub in_order : IsSublist (commands_of received) commands
  pub all_counted : length received + all_missed missed ≡ length commands
  pub lent : LentFromEnd fits count grid spares (spares_told received)
  pub known : IsPrefix had.known has.known
  pub filled : 0 < missed.full → cells ≤ length has.known

-- a Replace takes the last spare, and no other event takes one
abbrev pub Takes : {X : Type 0} → (X → Floor → Bool) → (X → ℕ) → Floor → Event → List X → List X → Type 0
Takes fits count grid (Event.Replace agent told) spares left = TakesLast fits count grid (Event.Replace agent told) spares left
Takes fits count grid event spares left = left ≡ spares

-- One call for a command, where there is a given number of cells: the pass has one more entry, which answers it and takes the spare
-- that it tells, or the desk refused the call and the spares are as they were.
abbrev pub Tried : {X : Type 0} → (X → Floor → Bool) → (X → ℕ) → Floor → ℕ → Command → Received → List X → Option DeskFault → Received → List X → Type 0
Tried fits count grid cells command had spares None has left =
    (x : ℕ × Entry) × (command_of x.1.event ≡ command) × (has.caller ≡ had.caller) × (has.list ≡ had.list ++ x ∷ [])
    × Takes fits count grid x.1.event spares left × IsPrefix had.known has.known
Tried fits count grid cells command had spares (Some fault) has left = Refuses cells had fault has × (left ≡ spares)

-- the pass and the work are those at place i
pub record IsDue {X : Type 0} (works : List (Work X)) (passes : List Received) (i : ℕ) (had : Received) (work : Work X) : Type 0 where
  pub had_is : slice_get passes i ≡ Some had
  pub work_is : slice_get works i ≡ Some work

-- the worker at place i ended with this pass, and missed these calls
abbrev pub ReportAt : {X : Type 0} → (X → Floor → Bool) → (X → ℕ) → Floor → ℕ → List (Work X) → List Received → ℕ → Received → Missed → Type 0
ReportAt {X} fits count grid cells works passes i has missed =
    (work : Work X) (had : Received) → slice_get works i ≡ Some work → slice_get passes i ≡ Some had →
    Worked fits count grid cells work.commands.items work.spares.items had has missed

-- For each worker: what its caller has in the history are the entries that its pass held before, and then its commands, in
-- order, without as many as it missed.
pub record AllWorked {X : Type 0} (fits : X → Floor → Bool) (count : X → ℕ) (grid : Floor) (cells : ℕ) (works : List (Work X)) (passes : List Received)
    (history : List Entry) (missed : List Missed) : Type 0 where
  pub one_each : length missed ≡ length works
  pub each : (i : ℕ) (work : Work X) (had : Received) (n : Missed) →
      slice_get works i ≡ Some work → slice_get passes i ≡ Some had → slice_get missed i ≡ Some n →
      Worked fits count grid cells work.commands.items work.spares.items had (record { caller = i; list = entries_of history i; known = history }) n

-- Where a call was missed since the journal was full, the history has just an entry for each cell. No call was missed but for
-- this, or for lack of memory.
abbrev pub MissedWithCause : ℕ → List Entry → List Missed → Type 0
MissedWithCause cells history missed = AllAt (λ _ n. (0 < n.full → length history ≡ cells) × (n.other ≡ 0)) missed
