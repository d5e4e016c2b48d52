-- What the front of a log is: its text is fixed by what it tells.
use Rattle.std.specs.Prelude.{◌≡◌, ℕ, List, [], ◌∷◌, ◌++◌, map, length, cond}
use Rattle.std.specs.List.{AllByRecursion}
use Rattle.wh_words.specs.Lines.{text_of}
use Rattle.wh_log.specs.Ranges.{IsClock}
use Rattle.wh_front.specs.declared.rules.Rules.{Rules}
use Rattle.wh_front.specs.declared.front.Front.{Front}
use Rattle.wh_front.specs.declared.front.Seat.{Seat}
use Rattle.wh_front.specs.declared.front.Submission.{Submission}
use Rattle.wh_front.specs.declared.line.Line.{Line}
use Rattle.wh_front.specs.declared.line.Line.TheVariants as lines
use Rattle.wh_front.specs.Spelling.{front_line}
use Rattle.wh_front.specs.Ranges.{BeforeFits, RulesFit, CountsFit, SeatFits, SubmissionFits, IsAgents, IsTasks, are_told}

-- a line tells the rules that are not the defaults; there is none where both are
abbrev pub rules_lines : Rules → List Line
rules_lines rules = cond (are_told rules.homes rules.age) (lines.Rules rules ∷ []) []

-- the first lines: what came before, the rules, the state, and how many entries each caller had
abbrev pub head_lines : Front → List Line
head_lines f =
    lines.Title ∷ lines.Before f.before ∷ (rules_lines f.rules ++ lines.State f.clock f.closed f.kind ∷ lines.Entries f.counts ∷ [])

-- how many agents there are, and a line for each
abbrev pub seat_lines : List Seat → List Line
seat_lines seats = lines.Agents (length seats) ∷ map lines.Agent seats

-- how many tasks there are, and a line for each
abbrev pub task_lines : List Submission → List Line
task_lines tasks = lines.Tasks (length tasks) ∷ map lines.Task tasks

-- the lines of a front, in their order
abbrev pub front_lines : Front → List Line
front_lines f = head_lines f ++ seat_lines f.seats ++ task_lines f.tasks ++ lines.Begin ∷ []

-- the one text of a front: each line with its line feed
abbrev pub front_text : Front → List ℕ
front_text f = text_of (map front_line (front_lines f))

-- what a front can tell
pub record Fits (f : Front) : Type 0 where
  pub before : BeforeFits f.before
  pub rules : RulesFit f.rules
  pub clock : IsClock f.clock
  pub counts : CountsFit f.counts
  pub agents : IsAgents (length f.seats)
  pub seats : AllByRecursion SeatFits f.seats
  pub few : IsTasks (length f.tasks)
  pub tasks : AllByRecursion SubmissionFits f.tasks

-- the bytes are the text of this front
pub record IsFrontOf (bytes : List ℕ) (f : Front) : Type 0 where
  pub fits : Fits f
  pub text : bytes ≡ front_text f
