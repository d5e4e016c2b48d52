-- what a file of arrivals says, which may have been cut anywhere
use Rattle.std.specs.Prelude.{◌≡◌, ℕ, ◌+◌, ◌<◌, ◌≤◌, ◌⊎◌, List, ◌∷◌, ◌++◌, Some, Contains, length, slice_index}
use Rattle.std.specs.List.{AllByRecursion, AllZip}
use Rattle.wh_words.specs.Lines.{text_of}
use Rattle.wh_text.specs.Lines.{IsLine}
use Rattle.wh_vehicles.specs.Reports.{report_of}
use Rattle.wh_vehicles.specs.declared.report.Report.{Report}
use Rattle.wh_arrivals.specs.declared.reading.ReadFault.{ReadFault}
use Rattle.wh_arrivals.specs.declared.reading.ReadFault.TheVariants.{NoMemory, BadLine}

-- the line is this report, of one of the given number of agents
pub record IsArrival (agents : ℕ) (line : List ℕ) (report : Report) : Type 0 where
  pub says : report_of line ≡ Some report
  pub known : report.agent < agents

-- The text's lines are these reports, in order. What follows the last line feed is a line that was cut, and no report.
pub record Holds (agents : ℕ) (text : List ℕ) (reports : List Report) : Type 0 where
  pub lines : List (List ℕ)
  pub cut : List ℕ
  pub whole : AllByRecursion IsLine lines
  pub is_cut : IsLine cut
  pub text_is : text ≡ text_of lines ++ cut
  pub said : AllZip (IsArrival agents) lines reports

-- The greatest step that the reports name of the agent, 0 where they name none. (It is the last too, unless a report came
-- late; and a report that comes late changes nothing.)
pub record IsFurthest (reports : List Report) (agent step : ℕ) : Type 0 where
  pub named : (step ≡ 0) ⊎ Contains reports (record { agent = agent; step = step })
  pub none_beyond : (report : Report) → Contains reports report → report.agent ≡ agent → report.step ≤ step

-- the text tells these steps: one for each agent, the furthest of its reports
pub record TellsSteps (agents : ℕ) (text : List ℕ) (steps : List ℕ) : Type 0 where
  pub reports : List Report
  pub holds : Holds agents text reports
  pub all : length steps ≡ agents
  pub each : (agent : ℕ) → agent < agents → IsFurthest reports agent (slice_index steps agent)

-- The line of this number, from 1, stands whole and is no report of an agent that there is; each line before is one.
pub record IsFirstBad (agents : ℕ) (text : List ℕ) (number : ℕ) : Type 0 where
  pub reports : List Report
  pub before : List (List ℕ)
  pub line : List ℕ
  pub rest : List ℕ
  pub whole : AllByRecursion IsLine before
  pub is_line : IsLine line
  pub text_is : text ≡ text_of before ++ (line ++ 10 ∷ rest)
  pub place : number ≡ length before + 1
  pub said : AllZip (IsArrival agents) before reports
  pub bad : (report : Report) → ¬ IsArrival agents line report

-- why no steps are told; when out of memory, nothing is said
abbrev pub TellsFault : ℕ → List ℕ → ReadFault → Type 0
TellsFault agents text NoMemory = Unit {0}
TellsFault agents text (BadLine number) = IsFirstBad agents text number

-- A text tells no steps where a line is bad, and else one list of steps at most.
abbrev pub OneReading : Type 0
OneReading =
    (agents : ℕ) (text : List ℕ) (steps : List ℕ) → TellsSteps agents text steps →
    ((others : List ℕ) → TellsSteps agents text others → others ≡ steps) × ((number : ℕ) → ¬ IsFirstBad agents text number)
