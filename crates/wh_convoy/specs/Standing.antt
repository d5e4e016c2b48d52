-- where vehicles stand as a run goes on
use Rattle.std.specs.Prelude.{◌≡◌, ◌≢◌, ◌⊎◌, ℕ, ◌+◌, ◌-◌, ◌<◌, ◌≤◌, true, List, [], ◌∷◌, ◌++◌, Option, None, Some, length, slice_index, count_by}
use Rattle.wh_text.specs.Lines.{IsLine, is_line_feed}
use Rattle.wh_book.specs.Drafts.{Seen}
use Rattle.wh_arrivals.specs.Arrivals.{TellsSteps, IsFirstBad}
use Rattle.wh_arrivals.specs.Standing.{Stand, ComesTooEarly}
use Rattle.wh_resume.specs.declared.recovery.Preface.{Preface}
use Rattle.wh_convoy.specs.Beginning.{IsBeginning, first_line}
use Rattle.wh_convoy.specs.declared.finding.Stood.{Stood}
use Rattle.wh_convoy.specs.declared.finding.StoodFault.{StoodFault}
use Rattle.wh_convoy.specs.declared.finding.StoodFault.TheVariants.{BadLine, Astray, NoMemory}

-- no bytes, or bytes of which the last is a line feed
abbrev pub EndsFeed : List ℕ → Type 0
EndsFeed bytes = (bytes ≡ []) ⊎ ((front : List ℕ) × (bytes ≡ front ++ 10 ∷ []))

-- This many bytes of the text are whole lines, and what follows them is a line that was cut.
pub record IsWhole (text : List ℕ) (bytes : ℕ) : Type 0 where
  pub front : List ℕ
  pub cut : List ℕ
  pub text_is : text ≡ front ++ cut
  pub ends : EndsFeed front
  pub is_cut : IsLine cut
  pub bytes_are : bytes ≡ length front

-- how many whole lines a text has
abbrev pub whole_lines : List ℕ → ℕ
whole_lines text = count_by is_line_feed text

-- The text of a file of arrivals has a line beyond its first, with which it is begun: vehicles have carried out its run.
abbrev pub IsDriven : List ℕ → Type 0
IsDriven text = 2 ≤ whole_lines text

-- how many steps the plan of the book's run has
abbrev pub steps_of : Seen → ℕ
steps_of book = book.state.clock - book.opening.clock

-- The reports of a file of arrivals: all its lines; or those behind the line that tells of the front with which the log begins, and none where no
-- line stands whole.
abbrev pub HasReports : Option Preface → (text reports : List ℕ) → Type 0
HasReports None text reports = reports ≡ text
HasReports (Some preface) text reports = (text ≡ first_line (Some preface) ++ reports) ⊎ (IsLine text × (reports ≡ []))

-- lines stand whole, and the first does not tell of the front
abbrev pub LacksFirst : Option Preface → List ℕ → Type 0
LacksFirst None text = ⊥
LacksFirst (Some preface) text = (IsLine text → ⊥) × ((reports : List ℕ) → text ≢ first_line (Some preface) ++ reports)

-- how many lines stand before the reports
abbrev pub lines_before : Option Preface → ℕ
lines_before None = 0
lines_before (Some preface) = 1

-- the text tells these steps of this many vehicles
abbrev pub TellsStand : ℕ → Option Preface → (text steps : List ℕ) → Type 0
TellsStand agents preface text steps = (reports : List ℕ) × HasReports preface text reports × TellsSteps agents reports steps

-- this line of the file is its first that is no report of one of these agents, where one is to stand
abbrev pub IsBadReport : ℕ → Option Preface → List ℕ → ℕ → Type 0
IsBadReport agents preface text line = (reports : List ℕ) × HasReports preface text reports × ((number : ℕ) × IsFirstBad agents reports number × (line ≡ lines_before preface + number))

-- why it tells no steps; when out of memory, nothing is said
abbrev pub IsUntold : ℕ → Option Preface → List ℕ → StoodFault → Type 0
IsUntold agents preface text (BadLine line) = IsBadReport agents preface text line ⊎ ((line ≡ 1) × LacksFirst preface text)
IsUntold agents preface text (Astray agent) = ⊥
IsUntold agents preface text NoMemory = Unit {0}

-- The text tells the steps at which the vehicles have arrived, none beyond the clock's; there they stand, and were told nothing
-- beyond. A file in which no line stands whole tells so of a plan with no step, and only where it is empty or holds a beginning of the
-- line that the run's file begins with: no other is taken for one.
pub record StandsBy (book : Seen) (ahead : ℕ) (preface : Option Preface) (text : List ℕ) (stood : Stood) : Type 0 where
  pub steps : List ℕ
  pub tells : TellsStand (length book.state.paths) preface text steps
  pub within : (agent : ℕ) → agent < length steps → slice_index steps agent ≤ steps_of book
  pub stand : Stand book ahead steps stood.order
  pub whole : IsWhole text stood.bytes
  pub begun : stood.bytes ≡ 0 → steps_of book ≡ 0
  pub own : stood.bytes ≡ 0 → IsBeginning preface text

-- by these steps the agent's vehicle has come further than the clock, or too early to a cell
pub record IsAstray (book : Seen) (ahead : ℕ) (preface : Option Preface) (text : List ℕ) (agent : ℕ) : Type 0 where
  pub steps : List ℕ
  pub tells : TellsStand (length book.state.paths) preface text steps
  pub why : ((agent < length steps) × (steps_of book < slice_index steps agent)) ⊎ (book.site.layout.nofollow ≡ true → ComesTooEarly book ahead steps agent)

-- no whole line stands there, and the plan has steps, or the bytes are another's
abbrev pub IsLost : Seen → Option Preface → List ℕ → Type 0
IsLost book preface text = IsLine text × ((0 < steps_of book) ⊎ (IsBeginning preface text → ⊥))

-- why they cannot go on; when out of memory, nothing is said
abbrev pub IsWhyNotStood : Seen → ℕ → Option Preface → List ℕ → StoodFault → Type 0
IsWhyNotStood book ahead preface text (BadLine line) = IsUntold (length book.state.paths) preface text (BadLine line) ⊎ ((line ≡ 1) × IsLost book preface text)
IsWhyNotStood book ahead preface text (Astray agent) = IsAstray book ahead preface text agent
IsWhyNotStood book ahead preface text NoMemory = Unit {0}
