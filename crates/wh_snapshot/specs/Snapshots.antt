-- what the front of a log tells of a book: its state, who submitted each task, and how many entries each caller had
use Rattle.std.specs.Prelude.{◌≡◌, ℕ, ◌+◌, ◌<◌, ◌≤◌, ◌^◌, Bool, true, false, List, ◌++◌, map, filter, sum_by, count_by, length, nat_lt, ◌==◌, cond}
use Rattle.std.specs.List.{range_with_len, AllByRecursion}
use Rattle.wh_event.specs.declared.entry.Entry.{Entry}
use Rattle.wh_event.specs.declared.reply.Reply.{Reply}
use Rattle.wh_grid.specs.declared.cell.Cell.{Cell}
use Rattle.wh_tasks.specs.declared.task.Task.{Task}
use Rattle.wh_core.specs.Steps.{Run}
use Rattle.wh_core.specs.Laws.{IsBeginning}
use Rattle.wh_book.specs.Drafts.{Seen}
use Rattle.wh_stand.specs.Parts.{Parts}
use Rattle.wh_front.specs.declared.front.Count.{Count}
use Rattle.wh_front.specs.declared.front.Seat.{Seat}
use Rattle.wh_front.specs.declared.front.Submission.{Submission}
use Rattle.wh_front.specs.declared.front.Front.{Front}

-- ---- who submitted the tasks
-- whether a task was accepted
abbrev pub is_accepted : Reply → Bool
is_accepted (Reply.Accepted n) = true
is_accepted reply = false

-- the callers whose submits were accepted, in order: the n-th of them submitted the n-th new task
abbrev pub submitters : List Entry → List ℕ
submitters entries = map (λ (entry : Entry). entry.caller) (filter (λ (entry : Entry). is_accepted entry.reply) entries)

-- ---- how many entries each caller had
-- of these entries
abbrev pub entries_of : ℕ → List Entry → ℕ
entries_of caller entries = count_by (λ (entry : Entry). entry.caller == caller) entries

-- as counts tell
abbrev pub entries_told : ℕ → List Count → ℕ
entries_told caller counts = sum_by (λ (count : Count). cond (count.caller == caller) count.entries 0) counts

-- for each caller below 64 that had an entry, how many it had, by rising callers
abbrev pub counted : (ℕ → ℕ) → List Count
counted entries =
    filter (λ (count : Count). nat_lt 0 count.entries) (map (λ (caller : ℕ). record { caller = caller; entries = entries caller }) (range_with_len 0 64))

-- those told before and those of the history, for each caller together
abbrev pub counts_told : List Count → List Entry → List Count
counts_told had history = counted (λ caller. entries_told caller had + entries_of caller history)

-- all entries that counts tell
abbrev pub all_told : List Count → ℕ
all_told counts = sum_by (λ (count : Count). count.entries) counts

-- all entries, those told before and those of the history, can be counted in 64 bits
abbrev pub CanCount : List Count → List Entry → Type 0
CanCount had history = all_told had + length history < 2 ^ 64

-- ---- the front
-- what a front tells of its state
abbrev pub told_parts : Front → Parts
told_parts front = record {
  clock = front.clock;
  closed = front.closed;
  paths = map (λ (seat : Seat). seat.path) front.seats;
  slots = map (λ (seat : Seat). seat.slots) front.seats;
  tasks = map (λ (submission : Submission). submission.task) front.tasks;
}

-- who submitted its tasks
abbrev pub callers_told : Front → List ℕ
callers_told front = map (λ (submission : Submission). submission.caller) front.tasks

-- The front tells the state of the book; who submitted its tasks, those with which the book began and those of its history; and how
-- many entries each caller had, before the book began and in its history. The lists say what was before: none for a book that began
-- at an opening, else what the front told with whose state it began.
pub record IsSnapshot (had_callers : List ℕ) (had_counts : List Count) (book : Seen) (front : Front) : Type 0 where
  pub clock : front.clock ≡ book.state.clock
  pub closed : front.closed ≡ book.state.closed
  pub paths : (told_parts front).paths ≡ book.state.paths
  pub slots : (told_parts front).slots ≡ book.state.slots
  pub tasks : (told_parts front).tasks ≡ book.state.tasks
  pub callers : callers_told front ≡ had_callers ++ submitters book.history
  pub counts : front.counts ≡ counts_told had_counts book.history

-- The book's history is a run to its state, from a beginning at which all were on their ways; and these are the columns of that state, and
-- that history.
pub record Reaches (clock : ℕ) (closed : Bool) (paths : List (List Cell)) (slots : List ℕ) (tasks : List Task) (history : List Entry) (book : Seen) : Type 0 where
  pub begins : IsBeginning book.site book.opening
  pub run : Run book.site book.opening book.history book.state
  pub some : 1 ≤ length book.site.layout.agents
  pub few : length paths ≤ 256
  pub clock_is : clock ≡ book.state.clock
  pub closed_is : closed ≡ book.state.closed
  pub paths_are : paths ≡ book.state.paths
  pub slots_are : slots ≡ book.state.slots
  pub tasks_are : tasks ≡ book.state.tasks
  pub history_is : history ≡ book.history

-- these callers have a number that a log can tell
abbrev pub AreCallers : List ℕ → Type 0
AreCallers callers = AllByRecursion (λ (caller : ℕ). caller < 64) callers

-- so has the caller of each entry
abbrev pub HaveCallers : List Entry → Type 0
HaveCallers entries = AllByRecursion (λ (entry : Entry). entry.caller < 64) entries
