-- what a front told before the entries of a log, if one did
use Rattle.std.specs.Prelude.{◌≡◌, ◌⊎◌, ℕ, ◌+◌, ◌<◌, List, [], take, Option, Some, None}
use Rattle.wh_core.specs.States.{State}
use Rattle.wh_front.specs.declared.front.Count.{Count}
use Rattle.wh_resume.specs.Drafts.{Seen}
use Rattle.wh_resume.specs.declared.recovery.Preface.{Preface}
use Rattle.wh_front.specs.declared.front.Front.{Front}
use Rattle.wh_resume.specs.declared.recovery.Resumed.{Resumed}
use Rattle.wh_handover.specs.Handing.{IsHandover, number_behind}

-- the number of the log in its chain
abbrev pub number_had : Option Preface → ℕ
number_had None = 1
number_had (Some preface) = number_behind preface.head.before

-- who submitted the tasks of its opening
abbrev pub callers_had : Option Preface → List ℕ
callers_had None = []
callers_had (Some preface) = preface.callers

-- how many entries each caller had had
abbrev pub counts_had : Option Preface → List Count
counts_had None = []
counts_had (Some preface) = preface.head.counts

-- how many entries of a log count, where so many were before it
abbrev pub Counts : Option ℕ → (before entries count : ℕ) → Type 0
Counts None before entries count = count ≡ entries
Counts (Some number) before entries count = number ≡ before + count

-- the entry of this number is not among them
abbrev pub CountsNone : Option ℕ → (before entries : ℕ) → Type 0
CountsNone None before entries = ⊥
CountsNone (Some number) before entries = (number < before) ⊎ (before + entries < number)

-- the front of the state after these entries of a log, with whose opening the book began
abbrev pub HandsOver : (text : List ℕ) → Resumed → Option ℕ → Front → Type 0
HandsOver text resumed after front = (h : IsHandover resumed.book.site text after front) × (h.told.opening ≡ resumed.book.opening)

-- a book that came to this state by its first entries
abbrev pub cut_at : Seen → ℕ → State → Seen
cut_at book count state = record { site = book.site; opening = book.opening; state = state; history = take count book.history; entry_room = 0; task_room = 0 }
