-- What clients did from where a warehouse stood, and what the journal holds of it.
use Rattle.std.specs.Prelude.{◌≡◌, ◌≢◌, ℕ, ◌≤◌, ◌-◌, ◌++◌, Bool, true, List, [], length, take, All, Option, Some, option_map, slice_get}
use mathlib.Core.List.{IsPrefix}
use Rattle.std.specs.Io.KnownBytes.{Appends}
use Rattle.wh_grid.specs.Grids.{Floor}
use Rattle.wh_event.specs.declared.entry.Entry.{Entry}
use Rattle.wh_core.specs.States.{State}
use Rattle.wh_desk.specs.Pasts.{Origin}
use Rattle.wh_desk.specs.Lists.{Received, entries_of}
use Rattle.wh_desk.specs.Calls.{InOrder}
use Rattle.wh_desk.specs.Drafts.{Seen}
use Rattle.wh_journal.specs.Journals.{lines_for}
use Rattle.wh_crew.specs.Work.{command_of}
use Rattle.wh_scribe.specs.Keeping.{Holds}
use Rattle.wh_scribe.specs.declared.scribe.Kept.{Kept}
use Rattle.wh_serve.specs.Allowances.{allows}
use Rattle.wh_serve.specs.declared.allowance.Allowance.{Allowance}
use Rattle.wh_serve.specs.declared.threads.Client.{Client}
use Rattle.wh_serve.specs.declared.doors.WorkerEnd.{WorkerEnd}
use Rattle.wh_host.specs.declared.pacing.Pacing.{Pacing}
use Rattle.wh_host.specs.Pacing.{callers_of}
use Rattle.wh_host.specs.Hosting.{Leaves}

-- A client's entries keep to what it may do: behind those that it had before, it has the right to each that was added, and where
-- one was, there are no more of all of them than may be its own.
pub record KeepsTo (may : Allowance) (before entries : List (ℕ × Entry)) : Type 0 where
  pub added : List (ℕ × Entry)
  pub entries_are : entries ≡ before ++ added
  pub allowed : All (λ x. allows may.rights (command_of x.1.event) ≡ true) added
  pub few : added ≢ [] → length entries ≤ may.entries

-- A history goes on from an earlier one, by these clients, and the worker behind them if there is one: they leave a desk that has
-- as many cells as the journal may have entries. Each had before what is its number's in the earlier history. What each client has
-- in the whole keeps to what the client may do behind that.
pub record ServedFrom {R W X : Type 0} (fits : X → Floor → Bool) (count : X → ℕ) (text : List Entry → ℕ × Entry → List ℕ) (remaining : R → Option (List ℕ)) (contents : W → Option (List ℕ))
    (origin : Origin) (earlier : List Entry) (clients : List (Client X)) (pace : Option Pacing) (journal : ℕ) (history : List Entry) (state : State) (connections : List ℕ) (worker : Option WorkerEnd) : Type 0 where
  pub begins : IsPrefix earlier history
  pub passes : List Received
  pub in_order : InOrder (callers_of clients pace) passes
  pub had : All (λ pass. pass.list ≡ entries_of earlier pass.caller) passes
  pub leaves : Leaves fits count text remaining contents origin journal (callers_of clients pace) clients passes pace history state connections worker
  pub allowed : (i : ℕ) (client : Client X) → slice_get clients i ≡ Some client → KeepsTo client.allowance (entries_of earlier i) (entries_of history i)

-- what stands in a file that tells its bytes before the lines of the book's entries, with which it ends
abbrev pub first_lines : Option (List ℕ) → Seen → Option (List ℕ)
first_lines file book = option_map (λ text. take (length text - length (lines_for book.history)) text) file

-- A journal holds now, behind what it held at its start, the lines of the first n entries of the history, and maybe, where it
-- has failed, a front of the lines of the next ones. Where it is told to be whole, these are the lines of all its entries, and they outlive a kill.
pub record IsJournalOf (start now synced : Option (List ℕ)) (history : List Entry) (is_whole : Bool) : Type 0 where
  pub written : ℕ
  pub within : written ≤ length history
  pub failed : Bool
  pub holds : Holds failed start now history written
  pub whole : is_whole ≡ true → Appends start now (lines_for history)
  pub safe : is_whole ≡ true → Appends start synced (lines_for history)

-- what a scribe leaves of a journal that held this at its start
pub record LeavesKept {J : Type 0} (contents synced : J → Option (List ℕ)) (start : Option (List ℕ)) (kept : Kept J) : Type 0 where
  pub within : kept.written ≤ length kept.front.past.history
  pub holds : Holds kept.failed start (contents kept.journal) kept.front.past.history kept.written
  pub safe_within : kept.synced ≤ kept.written
  pub safe : Appends start (synced kept.journal) (lines_for (take kept.synced kept.front.past.history))
