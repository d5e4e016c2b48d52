-- A worker for all agents and the clock, beside clients.
use Rattle.std.specs.Prelude.{◌≡◌, ◌≤◌, ◌+◌, ◌⊎◌, ℕ, Bool, true, false, List, [], ◌∷◌, ◌++◌, length, slice_get, slice_set, MatchOption, Option, None, Some}
use mathlib.Core.List.{IsPrefix}
use Rattle.wh_event.specs.declared.entry.Entry.{Entry}
use Rattle.wh_board.specs.Pasts.{Origin}
use Rattle.wh_board.specs.declared.board.Board.{Board}
use Rattle.wh_desk.specs.Lists.{Received, entries_of}
use Rattle.wh_desk.specs.Calls.{Refuses}
use Rattle.wh_desk.specs.declared.answer.DeskFault.TheVariants.{Stale}
use Rattle.wh_crew.specs.Turns.{AreTaken, AskInTurn, Asks, Gains, IsBrokenOff, IsLastWhole, Outcome, Taken, Ticks, received_by, with_receipt}
use Rattle.wh_scribe.specs.declared.calling.CallFault.TheVariants.{Refused, Failed, Unkept}
use Rattle.wh_serve.specs.declared.doors.WorkerEnd.{WorkerEnd}
use Rattle.wh_serve.specs.declared.doors.WorkerEnd.TheVariants.{ShareUsed, Untold}
use Rattle.wh_host.specs.declared.pacing.Pacing.{Pacing}

-- how many callers a run has: its clients, and behind them the agents' worker if there is one
abbrev pub callers_of : {C : Type 0} → List C → Option Pacing → ℕ
callers_of clients None = length clients
callers_of clients (Some pace) = length clients + 1

-- The agent that was next to ask, of those that were not asked, asked and is marked, and this came of it.
pub record AsksOnce (origin : Origin) (had : Received) (asked : List Bool) (old : Outcome) (has : Received) (marked : List Bool) (new : Outcome) : Type 0 where
  pub receipt : ℕ × Entry
  pub asks : Asks origin had asked (receipt ∷ []) has marked
  pub agent : ℕ
  pub unasked : slice_get asked agent ≡ Some false
  pub marked_is : marked ≡ slice_set asked agent true
  pub outcome_is : new ≡ with_receipt old receipt.0 receipt.1.reply

-- What is left where the worker, which may have a given number of entries, ended at a call, where the journal has a given number of positions:
-- all as it was, where it has as many as may be its own, or the journal had failed before; what a refusal of the desk leaves; and where the
-- journal failed at the call, this entry more, which was told to nobody.
abbrev pub LeavesOff : (cells entries : ℕ) → Received → WorkerEnd → (untold : List (ℕ × Entry)) → Received → Type 0
LeavesOff cells entries had ShareUsed untold has = (untold ≡ []) × (has ≡ had) × (entries ≤ length had.list)
LeavesOff cells entries had (Untold (Refused fault)) untold has = (untold ≡ []) × Refuses cells had fault has
LeavesOff cells entries had (Untold Failed) untold has = (untold ≡ []) × (has ≡ had)
LeavesOff cells entries had (Untold Unkept) untold has = (length untold ≡ 1) × Gains had untold has

-- The worker was told this, and ended at the next call, which left this.
pub record Stops (cells entries : ℕ) (had : Received) (told untold : List (ℕ × Entry)) (end : WorkerEnd) (has : Received) : Type 0 where
  pub between : Received
  pub gains : Gains had told between
  pub left : LeavesOff cells entries between end untold has

-- so at a request, of those that were not asked
abbrev pub StopsAsking : Origin → (cells entries : ℕ) → Received → List Bool → WorkerEnd → Received → Type 0
StopsAsking origin cells entries had asked end has =
    (told : List (ℕ × Entry)) × (untold : List (ℕ × Entry)) × Stops cells entries had told untold end has
    × ((marked : List Bool) × AskInTurn origin has.known asked (told ++ untold) marked)

-- so at a tick
abbrev pub StopsTicking : (cells entries : ℕ) → Received → WorkerEnd → Received → Type 0
StopsTicking cells entries had end has =
    LeavesOff cells entries had end [] has ⊎ ((x : ℕ × Entry) × LeavesOff cells entries had end (x ∷ []) has × Ticks had x has)

-- so in a turn at a board
abbrev pub StopsTurn : Origin → (cells entries : ℕ) → Board → Received → WorkerEnd → Received → Type 0
StopsTurn origin cells entries board had end has =
    (told : List (ℕ × Entry)) × (untold : List (ℕ × Entry)) × Stops cells entries had told untold end has × IsBrokenOff origin has.known board told untold

-- The worker ended in this turn, at a call that was still to be made in it: what its pass was before the turn, the calls of which it was told in it,
-- and that of which it was not.
pub record EndsIn (origin : Origin) (cells entries : ℕ) (t : Taken) (end : WorkerEnd) (has : Received) : Type 0 where
  pub before : Received
  pub before_is : before.list ≡ t.had
  pub told : List (ℕ × Entry)
  pub untold : List (ℕ × Entry)
  pub received_are : t.received ≡ told ++ untold
  pub stops : Stops cells entries before told untold end has
  pub broken_off : IsBrokenOff origin has.known t.board told untold

-- it did so in the last of these turns
abbrev pub EndsInLast : Origin → (cells entries : ℕ) → List Taken → WorkerEnd → Received → Type 0
EndsInLast origin cells entries [] end has = ⊥
EndsInLast origin cells entries (t ∷ ts) end has = EndsIn origin cells entries t end has

-- The worker ended early, and why: at a look that was refused, behind whole turns; or in the last turn.
abbrev pub EndsOff : Origin → (cells entries : ℕ) → List Taken → WorkerEnd → Received → Type 0
EndsOff origin cells entries turns end has = (IsLastWhole origin has.known turns × (end ≡ Untold (Refused Stale))) ⊎ EndsInLast origin cells entries turns end has

-- Turns were taken, the last one first and no more than may be, in the history that the worker knows: what it has it had before, or received in
-- them. Each is whole, but where the worker ended early the last one may be broken off. Where it gained entries, it has no more than may be its
-- own. (AreTaken says who asks in a turn, and when one is taken.)
pub record PacesUntil (cells : ℕ) (pace : Pacing) (origin : Origin) (had has : Received) (ended : Option WorkerEnd) : Type 0 where
  pub caller_is : has.caller ≡ had.caller
  pub goes_on : IsPrefix had.known has.known
  pub turns : List Taken
  pub few : length turns ≤ pace.turns
  pub taken : AreTaken origin has.known had.list turns
  pub received : has.list ≡ received_by had.list turns
  pub ends : MatchOption ended (IsLastWhole origin has.known turns) (λ end. EndsOff origin cells pace.entries turns end has)
  pub share : (has.list ≡ had.list) ⊎ (length has.list ≤ pace.entries)

-- What the agents' worker, which had this pass, has in the whole history: the replies to its turns, and nothing else. What it knows of is a
-- beginning of that history.
pub record PacedIn (cells : ℕ) (pace : Pacing) (origin : Origin) (history : List Entry) (had : Received) (ended : Option WorkerEnd) : Type 0 where
  pub has : Received
  pub has_all : has.list ≡ entries_of history had.caller
  pub has_known : IsPrefix has.known history
  pub paces : PacesUntil cells pace origin had has ended
