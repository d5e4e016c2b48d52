-- that clients were served by one history
use Rattle.std.specs.Prelude.{◌≡◌, ◌<◌, ◌≤◌, ℕ, Bool, List, length, All, IfSome, Option, Some, slice_get}
use mathlib.Core.List.{IsPrefix}
use Rattle.wh_grid.specs.Grids.{Floor}
use Rattle.wh_event.specs.declared.entry.Entry.{Entry}
use Rattle.wh_core.specs.Laws.{IsBeginning}
use Rattle.wh_core.specs.States.{State}
use Rattle.wh_core.specs.Steps.{Run}
use Rattle.wh_desk.specs.Pasts.{Origin}
use Rattle.wh_desk.specs.Lists.{Received, entries_of}
use Rattle.wh_desk.specs.Calls.{NoneWantsPath}
use Rattle.wh_serve.specs.Rows.{Attended}
use Rattle.wh_serve.specs.declared.threads.Client.{Client}
use Rattle.wh_serve.specs.declared.doors.WorkerEnd.{WorkerEnd}
use Rattle.wh_host.specs.declared.pacing.Pacing.{Pacing}
use Rattle.wh_host.specs.Pacing.{PacedIn}

-- a client was served by what is the caller's in the history, and knows of a beginning of it
pub record ServedBy {C : Type 0} (serves : C → Received → Received → ℕ → Type 0) (history : List Entry) (caller : ℕ)
    (client : C) (had : Received) (connections : ℕ) : Type 0 where
  pub has : Received
  pub caller_is : has.caller ≡ caller
  pub list_is : has.list ≡ entries_of history caller
  pub knows : IsPrefix has.known history
  pub served : serves client had has connections

-- each client was served by what is its caller's in the history
pub record AllServed {C : Type 0} (serves : C → Received → Received → ℕ → Type 0) (clients : List C) (passes : List Received)
    (history : List Entry) (connections : List ℕ) : Type 0 where
  pub one_each : length connections ≡ length clients
  pub each : (i : ℕ) (client : C) (had : Received) (times : ℕ) →
      slice_get clients i ≡ Some client → slice_get passes i ≡ Some had → slice_get connections i ≡ Some times →
      ServedBy serves history i client had times

-- What clients, and the agents' worker behind them if there is one, leave of a desk with n cells: one run from where it began, by
-- a given number of callers alone. On a well-formed instance no request in it is refused for lack of a path. Each client was served by what
-- is its caller's in the history, and told it by the texts that its receipts have there.
pub record Leaves {R W X : Type 0} (fits : X → Floor → Bool) (count : X → ℕ) (text : List Entry → ℕ × Entry → List ℕ) (remaining : R → Option (List ℕ)) (contents : W → Option (List ℕ))
    (origin : Origin) (cells callers : ℕ) (clients : List (Client X)) (passes : List Received) (pace : Option Pacing)
    (history : List Entry) (state : State) (connections : List ℕ) (worker : Option WorkerEnd) : Type 0 where
  pub opening : IsBeginning origin.site origin.opening
  pub run : Run origin.site origin.opening history state
  pub by_callers : All (λ entry. entry.caller < callers) history
  pub granted : NoneWantsPath origin history
  pub within : length history ≤ cells
  pub served : AllServed (λ client had has times. Attended cells fits count origin.site.grid (text history) remaining contents client had has times) clients passes history connections
  pub paced : IfSome pace (λ p. (own : Received) → slice_get passes (length clients) ≡ Some own → PacedIn cells p origin history own worker)
