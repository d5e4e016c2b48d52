-- what one line of a script with vehicles does, and what is told
use Rattle.std.specs.Prelude.{◌≡◌, ◌⊎◌, ℕ, ◌-◌, ◌<◌, ◌≤◌, Bool, false, List, [], ◌∷◌, ◌++◌, length, map, Contains, Option, Some, None, Result, Ok, Err}
use Rattle.std.specs.List.{AllPairs}
use Rattle.wh_grid.specs.Grids.{Floor}
use Rattle.wh_core.specs.States.{State}
use Rattle.wh_core.specs.Steps.{last_clock}
use Rattle.wh_book.specs.Drafts.{Seen}
use Rattle.wh_event.specs.CommandLines.{command_of}
use Rattle.wh_event.specs.declared.event.Command.{Command}
use Rattle.wh_event.specs.declared.event.Command.TheVariants.{Tick}
use Rattle.wh_event.specs.declared.entry.Entry.{Entry}
use Rattle.wh_replay.specs.declared.asker.Asker.{Asker}
use Rattle.wh_event.specs.declared.fault.LineFault.{LineFault}
use Rattle.wh_event.specs.declared.fault.LineFault.TheVariants.{TooLong}
use Rattle.wh_log.specs.Told.{told_text}
use Rattle.wh_replay.specs.Answers.{asked, answers}
use Rattle.wh_replay.specs.Scripts.{Gives}
use Rattle.wh_drive.specs.Drives.{Drive, clock, reached}
use Rattle.wh_drive.specs.Runs.{Event, Run}
use Rattle.wh_order.specs.Orders.{IsFurthestBack}
use Rattle.wh_order.specs.Settling.{IsQuiet, OnlySettle, told_by}
use Rattle.wh_order.specs.declared.visit.Told.{Told}
use Rattle.wh_vehicles.specs.Reports.{report_of}
use Rattle.wh_vehicles.specs.Notices.{notice_text}
use Rattle.wh_vehicles.specs.Driving.{AnswersReport}
use Rattle.wh_vehicles.specs.Plans.{taken, Fleet}
use Rattle.wh_vehicles.specs.Visits.{Visit, HasMade}
use Rattle.wh_vehicles.specs.declared.report.Report.{Report}
use Rattle.wh_vehicles.specs.declared.notice.Notice.{Notice}
use Rattle.wh_vehicles.specs.declared.notice.Notice.TheVariants.{Go, Behind, Visited}

-- the warehouse, its spare planners, and the drive of its vehicles
pub record Depot (X : Type 0) : Type 0 where
  pub book : Seen
  pub spares : List X
  pub drive : Drive

-- the warehouse and the drive of its vehicles
abbrev pub fleet_of : {X : Type 0} → Depot X → Fleet
fleet_of depot = record { state = depot.book.state; drive = depot.drive }

-- What a line says: a report of a vehicle, or what it is as a command's.
pub data Heard : Type 0 where
  Reported : (report : Report) → Heard
  Asked : (kind : Result (Option Command) LineFault) → Heard

abbrev pub heard_by : Option Report → Result (Option Command) LineFault → Heard
heard_by (Some report) kind = Reported report
heard_by None kind = Asked kind

abbrev pub heard : List ℕ → Heard
heard line = heard_by (report_of line) (command_of line)

-- the same of a line of which nothing is known where it is longer than 256 bytes
abbrev pub heard_in : Option (List ℕ) → Heard
heard_in None = Asked (Err TooLong)
heard_in (Some line) = heard line

-- the line by which a vehicle is told a step
abbrev pub go_line : Told → List ℕ
go_line told = notice_text (Go told.agent told.step told.cell)

abbrev pub go_lines : List Told → List (List ℕ)
go_lines told = map go_line told

-- the line by which a visit is told that a vehicle has made
abbrev pub visit_line : Visit → List ℕ
visit_line v = notice_text (Visited v.agent v.task v.number)

abbrev pub visit_lines : List Visit → List (List ℕ)
visit_lines visits = map visit_line visits

-- the visit is made, and was not made before
pub record IsMadeNow {X : Type 0} (old new : Depot X) (v : Visit) : Type 0 where
  pub made : HasMade old.book.opening.clock (fleet_of new) v
  pub not_before : ¬ HasMade old.book.opening.clock (fleet_of old) v

-- of one task, the one comes before the other
abbrev pub InTurn : Visit → Visit → Type 0
InTurn u v = u.task ≡ v.task → u.number < v.number

-- The visits are made now, each stands there once, and those of a task are in its order.
pub record AreMadeNow {X : Type 0} (old new : Depot X) (visits : List Visit) : Type 0 where
  pub each : (v : Visit) → Contains visits v → IsMadeNow old new v
  pub in_turn : AllPairs InTurn visits

-- each visit that is made was made before, or is one of these
abbrev pub NoneIsLeft : {X : Type 0} → Depot X → Depot X → List Visit → Type 0
NoneIsLeft old new visits =
    (v : Visit) → HasMade old.book.opening.clock (fleet_of new) v → HasMade old.book.opening.clock (fleet_of old) v ⊎ Contains visits v

-- the line asks for a tick, and the warehouse would make it
pub record AsksToGoOn (s : State) (kind : Result (Option Command) LineFault) : Type 0 where
  pub tick : kind ≡ Ok (Some Tick)
  pub not_closed : s.closed ≡ false
  pub early : s.clock < last_clock

-- each vehicle is fewer steps behind the clock than the bound
abbrev pub AllKeepUp : Drive → ℕ → Type 0
AllKeepUp d bound = (agent : ℕ) → agent < length d.vehicles → clock d - reached d agent < bound

-- The clock waits: of the vehicles furthest back one is named, which is the bound or more steps behind. Nothing changes.
pub record IsHeldUp {X : Type 0} (bound : ℕ) (kind : Result (Option Command) LineFault) (old new : Depot X) (replies : List (List ℕ)) : Type 0 where
  pub asks : AsksToGoOn old.book.state kind
  pub agent : ℕ
  pub last : IsFurthestBack old.drive.vehicles agent
  pub late : bound ≤ clock old.drive - reached old.drive agent
  pub same : new ≡ old
  pub replies_are : replies ≡ notice_text (Behind agent (clock old.drive - reached old.drive agent)) ∷ []

-- where the plan is after what a line asked for: a tick that was made takes it on
abbrev pub gone_on : List (Option Entry) → State → Drive → Drive
gone_on [] s d = d
gone_on (None ∷ outcomes) s d = d
gone_on (Some entry ∷ outcomes) s d = taken entry.reply s d

-- The line is answered as a script's without vehicles, and the plan goes on with the clock.
pub record IsObeyed {X : Type 0} (fits : X → Floor → Bool) (count : X → ℕ) (asker : Asker) (bound : ℕ) (kind : Result (Option Command) LineFault)
    (old new : Depot X) (replies : List (List ℕ)) : Type 0 where
  pub in_time : AsksToGoOn old.book.state kind → AllKeepUp old.drive bound
  pub gives : Gives fits count asker.caller (asked kind) (answers (told_text asker.form) kind) old.book old.spares new.book new.spares replies
  pub drive : new.drive ≡ gone_on gives.outcomes new.book.state old.drive

-- The report is answered; the warehouse stays as it is.
pub record IsHeardOf {X : Type 0} (report : Report) (old new : Depot X) (replies : List (List ℕ)) : Type 0 where
  pub notice : Notice
  pub answers : AnswersReport old.drive report notice new.drive
  pub book : new.book ≡ old.book
  pub spares : new.spares ≡ old.spares
  pub replies_are : replies ≡ notice_text notice ∷ []

-- the reply to a line, if it has one, and what the line itself does
abbrev pub Answers : {X : Type 0} → (X → Floor → Bool) → (X → ℕ) → Asker → ℕ → Heard → Depot X → Depot X → List (List ℕ) → Type 0
Answers fits count asker bound (Reported report) old new replies = IsHeardOf report old new replies
Answers fits count asker bound (Asked kind) old new replies = IsHeldUp bound kind old new replies ⊎ IsObeyed fits count asker bound kind old new replies

-- A line is answered, and then vehicles go on: steps that stay are passed, visits are told that were made, each once, and
-- then each step that leads away as it is to be made, in order.
pub record TakesLine {X : Type 0} (fits : X → Floor → Bool) (count : X → ℕ) (asker : Asker) (bound : ℕ) (line : Heard) (old new : Depot X)
    (texts : List (List ℕ)) : Type 0 where
  pub mid : Depot X
  pub replies : List (List ℕ)
  pub answers : Answers fits count asker bound line old mid replies
  pub events : List Event
  pub only : OnlySettle mid.drive events
  pub run : Run mid.drive events new.drive
  pub book : new.book ≡ mid.book
  pub spares : new.spares ≡ mid.spares
  pub visits : List Visit
  pub made : AreMadeNow old new visits
  pub texts_are : texts ≡ replies ++ (visit_lines visits ++ go_lines (told_by mid.drive events))

-- All of it is done: nobody who may start has not been told, and no visit that was made is untold.
pub record ServesLine {X : Type 0} (fits : X → Floor → Bool) (count : X → ℕ) (asker : Asker) (bound : ℕ) (line : Heard) (old new : Depot X)
    (texts : List (List ℕ)) : Type 0 where
  pub takes : TakesLine fits count asker bound line old new texts
  pub quiet : IsQuiet new.drive
  pub all : NoneIsLeft old new takes.visits

-- all lines were served, one after another
abbrev pub ServesAll : {X : Type 0} → (X → Floor → Bool) → (X → ℕ) → Asker → ℕ → List (List ℕ) → Depot X → Depot X → List (List ℕ) → Type 0
ServesAll fits count asker bound [] old new texts = (new ≡ old) × (texts ≡ [])
ServesAll {X} fits count asker bound (line ∷ lines) old new texts =
    (mid : Depot X) × (first : List (List ℕ)) × (rest : List (List ℕ)) × ServesLine fits count asker bound (heard line) old mid first
    × ServesAll fits count asker bound lines mid new rest × (texts ≡ first ++ rest)
