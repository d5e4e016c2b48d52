-- how far a book has gone on while agents ask and the clock ticks
use Rattle.std.specs.Prelude.{◌≡◌, ℕ, ◌+◌, ◌<◌, ◌≤◌, ◌⊎◌, List, [], ◌∷◌, ◌++◌, Bool, true, false, Some, length, slice_get, All}
use Rattle.wh_points.specs.Points.{Site}
use Rattle.wh_path.specs.Paths.{steps_left}
use Rattle.wh_core.specs.States.{State}
use Rattle.wh_core.specs.Steps.{Answers, Run, IsDue, last_clock}
use Rattle.wh_event.specs.declared.event.Event.{Event}
use Rattle.wh_event.specs.declared.reply.Reply.{Reply}
use Rattle.wh_event.specs.declared.entry.Entry.{Entry}
use Rattle.wh_book.specs.Drafts.{Seen, HasWaysForAll}
use Rattle.wh_token.specs.Houses.{StaysAt}
use Rattle.wh_token.specs.Asking.{MayBeAsked, AllWouldRest}
use Rattle.wh_progress.specs.Progress.{HaveAtMost, HasAsked, FindPaths, StandsStill, left_to_do}
use Rattle.wh_delivery.specs.Turns.{IsInTurn, RunInTurn, no_path, since_all}
use Rattle.wh_delivery.specs.declared.broken_off.BrokenOff.{BrokenOff}

-- an agent asks, or the clock ticks
abbrev pub AsksOrTicks : Event → Type 0
AsksOrTicks (Event.Request agent) = Unit {0}
AsksOrTicks Event.Tick = Unit {0}
AsksOrTicks event = ⊥

-- the caller has an agent ask, or the clock tick
pub record IsOf (caller : ℕ) (entry : Entry) : Type 0 where
  pub caller_is : entry.caller ≡ caller
  pub event_is : AsksOrTicks entry.event

-- The book has gone on by these entries, of requests and ticks of the caller: its history by them, and its state by a run of them. On a
-- well-formed instance where all were on their ways as it began, no request among them was refused for lack of a path.
pub record GoesOn (caller : ℕ) (old : Seen) (added : List Entry) (new : Seen) : Type 0 where
  pub stays : StaysAt old new
  pub history : new.history ≡ old.history ++ added
  pub run : Run old.site old.state added new.state
  pub only : All (IsOf caller) added
  pub served : HasWaysForAll old.site old.opening → FindPaths added

-- neither closed nor ticked, and no task added
pub record IsOnTime (old new : State) : Type 0 where
  pub closed : new.closed ≡ old.closed
  pub clock : new.clock ≡ old.clock
  pub tasks : length new.tasks ≡ length old.tasks

-- one tick, while it was open, and no task added
pub record IsOneLater (old new : State) : Type 0 where
  pub not_closed : new.closed ≡ false
  pub was_open : old.closed ≡ false
  pub clock : new.clock ≡ old.clock + 1
  pub tasks : length new.tasks ≡ length old.tasks

-- These agents have asked, and whether any has. Where none has, nothing has changed; and where one has, not all stood still.
pub record HaveAsked (site : Site) (old : State) (asked : List Bool) (some : Bool) (added : List Entry) (new : State) : Type 0 where
  pub seats : length asked ≡ length new.paths
  pub told : (agent : ℕ) → slice_get asked agent ≡ Some true → HasAsked added agent
  pub only : (agent : ℕ) → HasAsked added agent → slice_get asked agent ≡ Some true
  pub on_time : IsOnTime old new
  pub none : some ≡ false → (added ≡ []) × (new ≡ old)
  pub one : some ≡ true → ¬ StandsStill site old
  pub who : some ≡ true → (agent : ℕ) × HasAsked added agent

-- and each other that is due would be told to rest
abbrev pub AllHaveAsked : Site → State → Bool → List Entry → State → Type 0
AllHaveAsked site old some added new = (asked : List Bool) × HaveAsked site old asked some added new × AllWouldRest site new (MayBeAsked asked)

-- These requests were all refused for lack of a path, so nothing has changed.
pub record AreInVain (site : Site) (old : State) (added : List Entry) (new : State) : Type 0 where
  pub all : All (λ entry. entry.reply ≡ no_path) added
  pub same : new ≡ old
  pub refused : (agent : ℕ) → HasAsked added agent → Answers site old no_path (Event.Request agent) old

-- It is stuck: all stand, and each agent that is due would be told to rest or is refused for lack of a path, as one is.
pub record IsStuck (site : Site) (s : State) : Type 0 where
  pub resting : (agent : ℕ) → agent < length s.paths → steps_left s.paths agent ≡ 0
  pub told : (agent : ℕ) → IsDue site s agent → Answers site s Reply.Rested (Event.Request agent) s ⊎ Answers site s no_path (Event.Request agent) s
  pub one : (agent : ℕ) × Answers site s no_path (Event.Request agent) s

-- A round has begun: each agent that is due has asked, or would be told to rest; and whether all stood still.
pub record Begins (site : Site) (old : State) (still : Bool) (added : List Entry) (new : State) : Type 0 where
  pub asked : (agent : ℕ) → IsDue site new agent → HasAsked added agent ⊎ Answers site new Reply.Rested (Event.Request agent) new
  pub on_time : IsOnTime old new
  pub stands : still ≡ true → (new ≡ old) × StandsStill site old
  pub moves : still ≡ false → ¬ StandsStill site old
  pub ticks : still ≡ false → IsInTurn site new added Event.Tick

-- After so many ticks: what is left to do has fallen with each of them.
pub record IsDelivering (caller : ℕ) (old : Seen) (ticks : ℕ) (now : Seen) : Type 0 where
  pub added : List Entry
  pub goes : GoesOn caller old added now
  pub in_turn : RunInTurn old.site old.state [] added now.state
  pub begins : since_all [] added ≡ []
  pub clock : now.state.clock ≡ old.state.clock + ticks
  pub tasks : length now.state.tasks ≡ length old.state.tasks
  pub falls : (stops : ℕ) → HasWaysForAll old.site old.opening → HaveAtMost stops old.state →
      ticks + left_to_do old.site stops now.state ≤ left_to_do old.site stops old.state

-- nothing but a tick
abbrev pub IsOneTick : List Entry → Type 0
IsOneTick added = (entry : Entry) × (added ≡ entry ∷ []) × (entry.event ≡ Event.Tick)

-- why it was broken off
abbrev pub IsWhy : Site → BrokenOff → State → Type 0
IsWhy site BrokenOff.NoMemory s = Unit {0}
IsWhy site BrokenOff.Closed s = s.closed ≡ true
IsWhy site BrokenOff.ClockFull s = s.clock ≡ last_clock
IsWhy site BrokenOff.Stuck s = IsStuck site s
