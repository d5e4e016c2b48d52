-- whose turn it is: which agent asks next, and when the clock ticks
use Rattle.std.specs.Prelude.{◌≡◌, ℕ, ◌<◌, List, [], ◌∷◌, ◌++◌, length, All}
use Rattle.wh_points.specs.Points.{Site}
use Rattle.wh_path.specs.Paths.{steps_left}
use Rattle.wh_core.specs.States.{State}
use Rattle.wh_core.specs.Steps.{Step}
use Rattle.wh_event.specs.declared.event.Event.{Event}
use Rattle.wh_event.specs.declared.reply.Reply.{Reply}
use Rattle.wh_event.specs.declared.reply.Refusal.{Refusal}
use Rattle.wh_event.specs.declared.entry.Entry.{Entry}
use Rattle.wh_token.specs.Asking.{AllWouldRest, IsNextToAsk}
use Rattle.wh_progress.specs.Progress.{HasAsked}

-- for lack of a path
abbrev pub no_path : Reply
no_path = Reply.Refused Refusal.NoPath

-- the agent is left to ask: it has not asked since the last tick
abbrev pub IsLeft : State → (since : List Entry) → ℕ → Type 0
IsLeft s since agent = (agent < length s.paths) × ¬ HasAsked since agent

-- A tick would change nothing but the clock: all stand, and whoever asked since the last tick was refused for lack of a path.
pub record BringsNothing (s : State) (since : List Entry) : Type 0 where
  pub resting : (agent : ℕ) → agent < length s.paths → steps_left s.paths agent ≡ 0
  pub refused : All (λ entry. entry.reply ≡ no_path) since

-- This is done in its turn: of the agents that are left to ask the one asks that is next; and the clock ticks where each of them that
-- is due would be told to rest, and a tick brings something.
abbrev pub IsInTurn : Site → State → (since : List Entry) → Event → Type 0
IsInTurn site s since (Event.Request agent) = IsNextToAsk site s (IsLeft s since) agent
IsInTurn site s since Event.Tick = AllWouldRest site s (IsLeft s since) × ¬ BringsNothing s since
IsInTurn site s since event = ⊥

-- what stands since the last tick once this entry, of this event, is there too
abbrev pub since_then : List Entry → Entry → Event → List Entry
since_then since entry Event.Tick = []
since_then since entry event = since ++ entry ∷ []

-- the entries lead from old to new, each in its turn; these are the entries since the last tick before them
abbrev pub RunInTurn : Site → State → (since : List Entry) → List Entry → State → Type 0
RunInTurn site old since [] new = new ≡ old
RunInTurn site old since (entry ∷ entries) new =
    IsInTurn site old since entry.event
    × ((mid : State) × Step site old entry mid × RunInTurn site mid (since_then since entry entry.event) entries new)

-- the entries since the last tick once all these are there too
abbrev pub since_all : List Entry → List Entry → List Entry
since_all since [] = since
since_all since (entry ∷ entries) = since_all (since_then since entry entry.event) entries

-- Entries since a tick, which lead from old to new, each in its turn, and none of which is a tick.
pub record IsRoundSoFar (site : Site) (old : State) (added : List Entry) (new : State) : Type 0 where
  pub run : RunInTurn site old [] added new
  pub since : since_all [] added ≡ added
