-- turns of the agents' worker
use Rattle.std.specs.Prelude.{◌≡◌, ◌≢◌, ◌⊎◌, ℕ, ◌+◌, ◌<◌, ◌≤◌, ◌==◌, ◌&&◌, ◌||◌, nat_le, nat_lt, not, Bool, true, false, List, [], ◌∷◌, ◌++◌, length, replicate, slice_set, cond, All, Option, None, Some}
use mathlib.Core.List.{IsPrefix}
use Rattle.wh_event.specs.declared.entry.Entry.{Entry}
use Rattle.wh_event.specs.declared.event.Command.{Command}
use Rattle.wh_event.specs.declared.event.Command.TheVariants.{Token, Tick}
use Rattle.wh_event.specs.declared.reply.Reply.{Reply}
use Rattle.wh_event.specs.declared.reply.Refusal.{Refusal}
use Rattle.wh_core.specs.Steps.{last_clock}
use Rattle.wh_board.specs.Pasts.{Origin}
use Rattle.wh_board.specs.Boards.{IsBoardOf}
use Rattle.wh_board.specs.declared.board.Board.{Board}
use Rattle.wh_board.specs.declared.board.Shown.{Shown}
use Rattle.wh_desk.specs.Lists.{Received}
use Rattle.wh_desk.specs.Calls.{AllRestAt, IsNextAt}
use Rattle.wh_crew.specs.Work.{command_of, commands_of}
use Rattle.wh_crew.specs.declared.last_turn.Idle.{Idle}

-- ---- one turn

-- nobody was asked
abbrev pub nobody : Origin → List Bool
nobody origin = replicate (length origin.site.layout.agents) false

-- These receipts are requests, one after another: each by the agent that is next to ask in the history before it, of those that were not
-- asked; who asked is marked then. So nobody asks who would be told to rest, and nobody twice.
abbrev pub AskInTurn : Origin → List Entry → List Bool → List (ℕ × Entry) → List Bool → Type 0
AskInTurn origin history asked [] marked = marked ≡ asked
AskInTurn origin history asked (x ∷ xs) marked =
    (agent : ℕ) × (command_of x.1.event ≡ Token agent) × IsNextAt origin history x.0 asked agent × AskInTurn origin history (slice_set asked agent true) xs marked

-- At a place of the history, behind the board and these requests and before these ticks, each agent that is due would be told to rest, of
-- those that were not asked.
pub record NobodyIsLeft (origin : Origin) (history : List Entry) (board : Board) (requests ticks : List (ℕ × Entry)) (marked : List Bool) : Type 0 where
  pub place : ℕ
  pub behind_board : board.entries ≤ place
  pub behind : All (λ x. x.0 < place) requests
  pub before : All (λ x. place ≤ x.0) ticks
  pub rest : AllRestAt origin history place marked

-- somebody is shown with steps left
abbrev pub moves : List Shown → Bool
moves [] = false
moves (shown ∷ agents) = nat_lt 0 shown.steps_left || moves agents

-- whether there is any
abbrev pub has_any : {A : Type 0} → List A → Bool
has_any [] = false
has_any (x ∷ xs) = true

-- the tick behind these requests: where there are any, or somebody is shown with steps left
abbrev pub ticked_behind : List (ℕ × Entry) → List Shown → List Command
ticked_behind requests agents = cond (has_any requests || moves agents) (Tick ∷ []) []

-- What is received in one turn at a board. Agents ask, one after another, each as it is next to ask, until nobody is left to ask; nobody asks
-- where no task is open. Then the clock ticks, where somebody asked or has steps left. So where nobody has to ask and all stand, it is nothing.
pub record IsTurn (origin : Origin) (history : List Entry) (board : Board) (received : List (ℕ × Entry)) : Type 0 where
  pub requests : List (ℕ × Entry)
  pub ticks : List (ℕ × Entry)
  pub received_are : received ≡ requests ++ ticks
  pub marked : List Bool
  pub ask : AskInTurn origin history (nobody origin) requests marked
  pub all_asked : NobodyIsLeft origin history board requests ticks marked ⊎ ((board.open_tasks ≡ 0) × (requests ≡ []))
  pub ticked : commands_of ticks ≡ ticked_behind requests board.agents.items

-- All had asked in a turn at a board, and the clock was to tick: these are its requests, and these its ticks, if there are any.
pub record IsAtTick (origin : Origin) (history : List Entry) (board : Board) (requests ticks : List (ℕ × Entry)) : Type 0 where
  pub marked : List Bool
  pub ask : AskInTurn origin history (nobody origin) requests marked
  pub all_asked : NobodyIsLeft origin history board requests ticks marked ⊎ ((board.open_tasks ≡ 0) × (requests ≡ []))
  pub due : (has_any requests || moves board.agents.items) ≡ true
  pub only_ticks : All (λ x. command_of x.1.event ≡ Tick) ticks

-- A turn at a board was broken off at a call that was still to be made: the worker was told of these calls before it, and of that one it was told
-- nothing. It was a request, where a task is open; or the tick, behind all requests.
abbrev pub IsBrokenOff : Origin → List Entry → Board → (told untold : List (ℕ × Entry)) → Type 0
IsBrokenOff origin history board told untold =
    ((board.open_tasks ≢ 0) × ((marked : List Bool) × AskInTurn origin history (nobody origin) (told ++ untold) marked)) ⊎ IsAtTick origin history board told untold

-- ---- whether there is anything to do behind a turn

-- what a turn came to: whether it changed nothing but the clock, then how many entries the history has behind it, and whether an agent was
-- refused a path in it
pub record Outcome : Type 0 where
  pub in_vain : Bool
  pub entries : ℕ
  pub no_path : Bool

-- how many entries there are up to the last one, which stands at this place, if there is one
abbrev pub behind : Option ℕ → ℕ
behind None = 0
behind (Some last) = last + 1

-- the reply brings no path
abbrev pub brings_none : Reply → Bool
brings_none (Reply.Took task path) = false
brings_none (Reply.Parked point path) = false
brings_none reply = true

-- the receipts stand one behind another from this place of the history on, so no entry of another is between, and none brings a path
abbrev pub are_in_vain : ℕ → List (ℕ × Entry) → Bool
are_in_vain place [] = true
are_in_vain place (x ∷ xs) = ((x.0 == place) && brings_none x.1.reply) && are_in_vain (place + 1) xs

-- a turn at a board received this, and changed nothing but the clock: nobody had steps left, from the board on nobody else did anything, and no
-- request brought a path
abbrev pub is_in_vain : Board → List (ℕ × Entry) → Bool
is_in_vain board received = not (moves board.agents.items) && are_in_vain board.entries received

-- the reply is E6
abbrev pub is_no_path : Reply → Bool
is_no_path (Reply.Refused Refusal.NoPath) = true
is_no_path reply = false

-- one of these receipts is of an agent that was refused a path
abbrev pub refuses_path : List (ℕ × Entry) → Bool
refuses_path [] = false
refuses_path (x ∷ xs) = is_no_path x.1.reply || refuses_path xs

-- a turn at a board that received this came to this
pub record IsOutcome (board : Board) (received : List (ℕ × Entry)) (outcome : Outcome) : Type 0 where
  pub in_vain : outcome.in_vain ≡ is_in_vain board received
  pub entries : outcome.in_vain ≡ true → outcome.entries ≡ board.entries + length received
  pub no_path : outcome.no_path ≡ refuses_path received

-- what a turn comes to with one receipt more
abbrev pub with_receipt : Outcome → ℕ → Reply → Outcome
with_receipt old place reply = record {
  in_vain = old.in_vain && ((place == old.entries) && brings_none reply);
  entries = place + 1;
  no_path = old.no_path || is_no_path reply;
}

-- Why orders stay open where there is nothing to do at a board behind what came to this: the clock is at its last; or an agent was refused a path;
-- or all rest, at a standstill. None where no order is open.
abbrev pub idle_at : Outcome → Board → Option Idle
idle_at outcome board = cond (board.open_tasks == 0) None (Some (cond (board.clock == last_clock) Idle.Clock (cond outcome.no_path Idle.NoPath Idle.Standstill)))

-- ---- calls of a turn

-- The pass gained these receipts, which stand in the history that it knows now.
pub record Gains (had : Received) (received : List (ℕ × Entry)) (has : Received) : Type 0 where
  pub caller_is : has.caller ≡ had.caller
  pub list_is : has.list ≡ had.list ++ received
  pub goes_on : IsPrefix had.known has.known
  pub within : All (λ x. x.0 < length has.known) received

-- they are of requests, each by who is next to ask
pub record Asks (origin : Origin) (had : Received) (asked : List Bool) (received : List (ℕ × Entry)) (has : Received) (marked : List Bool) : Type 0 where
  pub gains : Gains had received has
  pub ask : AskInTurn origin has.known asked received marked

-- all asked that were to ask in a turn at a board, and whether any did
pub record AllAsked (origin : Origin) (board : Board) (had : Received) (some : Bool) (has : Received) (outcome : Outcome) : Type 0 where
  pub requests : List (ℕ × Entry)
  pub marked : List Bool
  pub asks : Asks origin had (nobody origin) requests has marked
  pub all : AllRestAt origin has.known (length has.known) marked ⊎ ((board.open_tasks ≡ 0) × (requests ≡ []))
  pub some_is : some ≡ has_any requests
  pub outcome_is : IsOutcome board requests outcome

-- the clock ticked, behind all that was known
pub record Ticks (had : Received) (x : ℕ × Entry) (has : Received) : Type 0 where
  pub gains : Gains had (x ∷ []) has
  pub tick : command_of x.1.event ≡ Tick
  pub behind : length had.known ≤ x.0

-- and this came of it
pub record TicksOnce (had : Received) (old : Outcome) (has : Received) (new : Outcome) : Type 0 where
  pub receipt : ℕ × Entry
  pub ticks : Ticks had receipt has
  pub outcome_is : new ≡ with_receipt old receipt.0 receipt.1.reply

-- a turn at a board came to this
pub record ComesTo (origin : Origin) (board : Board) (had has : Received) (outcome : Outcome) : Type 0 where
  pub received : List (ℕ × Entry)
  pub gains : Gains had received has
  pub turn : IsTurn origin has.known board received
  pub outcome_is : IsOutcome board received outcome

-- ---- turns, one after another

-- A turn that was taken: what the worker had received before it, at which board it was taken, what was received in it, and which boards were
-- seen behind it, at which none was taken.
pub record Taken : Type 0 where
  pub had : List (ℕ × Entry)
  pub board : Board
  pub received : List (ℕ × Entry)
  pub later : List Board

-- The board shows a beginning of the history, in which all of these entries stand.
pub record Shows (origin : Origin) (history : List Entry) (own : List (ℕ × Entry)) (board : Board) : Type 0 where
  pub front : List Entry
  pub begins : IsPrefix front history
  pub board_is : IsBoardOf (record { origin = origin; history = front }) board
  pub own_are : All (λ x. x.0 < board.entries) own

-- there is nothing to do at a board that is seen behind a turn: the turn changed nothing but the clock, and the board shows no entry more
abbrev pub rests_at : Taken → Board → Bool
rests_at t board = is_in_vain t.board t.received && nat_le board.entries (t.board.entries + length t.received)

-- The board of a turn, and each that was seen behind it, shows all that the worker had received by then. Behind it there was nothing to do.
pub record IsSeen (origin : Origin) (history : List Entry) (t : Taken) : Type 0 where
  pub board : Shows origin history t.had t.board
  pub later : All (λ board. Shows origin history (t.had ++ t.received) board × (rests_at t board ≡ true)) t.later

-- what the worker has received behind these turns, the last one first
abbrev pub received_by : (had : List (ℕ × Entry)) → List Taken → List (ℕ × Entry)
received_by had [] = had
received_by had (t ∷ ts) = t.had ++ t.received

-- the last turn, if there is one, is whole
abbrev pub IsLastWhole : Origin → List Entry → List Taken → Type 0
IsLastWhole origin history [] = Unit {0}
IsLastWhole origin history (t ∷ ts) = IsTurn origin history t.board t.received

-- there is something to do at a board that is seen behind these turns
abbrev pub IsBusy : List Taken → Board → Type 0
IsBusy [] board = Unit {0}
IsBusy (t ∷ ts) board = rests_at t board ≡ false

-- Turns were taken, the last one first, by a worker that had received this before them all. Each but the last one is a whole turn; at the board
-- of the next one there was something to do; and at each other board that was seen up to that there was nothing to do. So nobody is asked again
-- in vain, an entry of another is never passed over, and no board lacks an entry of the worker's own.
abbrev pub AreTaken : Origin → List Entry → (had : List (ℕ × Entry)) → List Taken → Type 0
AreTaken origin history had [] = Unit {0}
AreTaken origin history had (t ∷ ts) =
    (t.had ≡ received_by had ts) × IsSeen origin history t × IsLastWhole origin history ts × IsBusy ts t.board × AreTaken origin history had ts
