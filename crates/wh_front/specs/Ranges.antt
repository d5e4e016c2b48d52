-- What a front can tell: the ranges of its values.
use Rattle.std.specs.Prelude.{◌≡◌, ℕ, ◌<◌, ◌≤◌, ◌^◌, Bool, true, false, List, [], ◌∷◌, length, Option, Some, None, IfSome}
use Rattle.std.specs.List.{AllByRecursion}
use Rattle.wh_grid.specs.declared.cell.Cell.{Cell}
use Rattle.wh_event.specs.Grammar.{IsName}
use Rattle.wh_tasks.specs.declared.task.Task.{Task}
use Rattle.wh_log.specs.Ranges.{IsSmall, IsClock}
use Rattle.wh_front.specs.Sums.{is_sum}
use Rattle.wh_front.specs.declared.before.Before.{Before}
use Rattle.wh_front.specs.declared.before.Before.TheVariants.{Nothing, Log}
use Rattle.wh_front.specs.declared.rules.Rules.{Rules}
use Rattle.wh_front.specs.declared.front.Count.{Count}
use Rattle.wh_front.specs.declared.front.Seat.{Seat}
use Rattle.wh_front.specs.declared.front.Submission.{Submission}
use Rattle.wh_front.specs.declared.line.Line.{Line}
use Rattle.wh_front.specs.declared.line.Line.TheVariants as lines

-- the log before has a number from 1 on
abbrev pub BeforeFits : Before → Type 0
BeforeFits Nothing = Unit {0}
BeforeFits (Log number bytes sum) = (1 ≤ number) × IsSmall number × (bytes < 2 ^ 64) × (is_sum sum ≡ true)

-- a class of ages spans 1 to 1,000,000,000 ticks
abbrev pub RulesFit : Rules → Type 0
RulesFit rules = IfSome rules.age (λ age. (1 ≤ age) × IsClock age)

-- a caller, and at least one entry
pub record CountFits (count : Count) : Type 0 where
  pub caller : count.caller < 64
  pub some : 1 ≤ count.entries
  pub few : count.entries < 2 ^ 64

-- each caller is greater than the one before
abbrev pub AreRising : List Count → Type 0
AreRising [] = Unit {0}
AreRising (one ∷ []) = Unit {0}
AreRising (one ∷ next ∷ more) = (one.caller < next.caller) × AreRising (next ∷ more)

abbrev pub CountsFit : List Count → Type 0
CountsFit counts = AllByRecursion CountFits counts × AreRising counts

-- a column and a row of 16 bits
abbrev pub CellFits : Cell → Type 0
CellFits cell = (cell.x < 65536) × (cell.y < 65536)

-- an agent's slots, and its path of at least one cell
pub record SeatFits (seat : Seat) : Type 0 where
  pub slots : seat.slots < 2 ^ 32
  pub some : 1 ≤ length seat.path
  pub cells : AllByRecursion CellFits seat.path

-- an open task has no visits
abbrev pub WhoFits : Option ℕ → List ℕ → Type 0
WhoFits None visits = visits ≡ []
WhoFits (Some agent) visits = IsSmall agent

-- a task: its client, when it was submitted, who has it, 2 to 8 stops, and no more visits than stops
pub record TaskFits (task : Task) : Type 0 where
  pub client : IsName task.client
  pub submitted : IsClock task.submitted
  pub who : WhoFits task.agent task.visits
  pub clocks : AllByRecursion IsClock task.visits
  pub few : length task.visits ≤ length task.stops
  pub two : 2 ≤ length task.stops
  pub eight : length task.stops ≤ 8
  pub cells : AllByRecursion CellFits task.stops

abbrev pub SubmissionFits : Submission → Type 0
SubmissionFits s = (s.caller < 64) × TaskFits s.task

-- 1 to 256 agents
abbrev pub IsAgents : ℕ → Type 0
IsAgents count = (1 ≤ count) × (count ≤ 256)

-- at most 1,000,000 tasks
abbrev pub IsTasks : ℕ → Type 0
IsTasks count = count ≤ 1000000

-- whether a rule is not the default
abbrev pub are_told : Bool → Option ℕ → Bool
are_told false None = false
are_told homes age = true

-- what a line of a front can tell
abbrev pub LineFits : Line → Type 0
LineFits lines.Title = Unit {0}
LineFits (lines.Before before) = BeforeFits before
LineFits (lines.Rules rules) = RulesFit rules × (are_told rules.homes rules.age ≡ true)
LineFits (lines.State clock closed kind) = IsClock clock
LineFits (lines.Entries counts) = CountsFit counts
LineFits (lines.Agents count) = IsAgents count
LineFits (lines.Agent seat) = SeatFits seat
LineFits (lines.Tasks count) = IsTasks count
LineFits (lines.Task submission) = SubmissionFits submission
LineFits lines.Begin = Unit {0}
