-- The words of a front's lines: the text of a line is fixed by what it tells.
use Rattle.std.specs.Prelude.{ℕ, Bool, true, false, List, [], ◌∷◌, ◌++◌, map, Option, Some, None, codes, decimal}
use Rattle.wh_words.specs.Words.{line_of}
use Rattle.wh_log.specs.Spelling.{cell_word}
use Rattle.wh_front.specs.declared.before.Before.{Before}
use Rattle.wh_front.specs.declared.before.Before.TheVariants.{Nothing, Log}
use Rattle.wh_front.specs.declared.rules.Rules.{Rules}
use Rattle.wh_front.specs.declared.rules.Kind.{Kind}
use Rattle.wh_front.specs.declared.rules.Kind.TheVariants.{Whole, Stopped, Edited}
use Rattle.wh_front.specs.declared.front.Count.{Count}
use Rattle.wh_front.specs.declared.front.Seat.{Seat}
use Rattle.wh_front.specs.declared.front.Submission.{Submission}
use Rattle.wh_front.specs.declared.line.Line.{Line}
use Rattle.wh_front.specs.declared.line.Line.TheVariants as lines

-- 0, or the log before: its number, its bytes and their sum
abbrev pub before_words : Before → List (List ℕ)
before_words Nothing = codes "0" ∷ []
before_words (Log number bytes sum) = decimal number ∷ decimal bytes ∷ sum ∷ []

-- the rule on where paths end, where it is not the default
abbrev pub ends_words : Bool → List (List ℕ)
ends_words true = codes "ends" ∷ codes "homes" ∷ []
ends_words false = []

-- the rule on age, where there is one
abbrev pub age_words : Option ℕ → List (List ℕ)
age_words None = []
age_words (Some age) = codes "age" ∷ decimal age ∷ []

abbrev pub rules_words : Rules → List (List ℕ)
rules_words rules = ends_words rules.homes ++ age_words rules.age

abbrev pub open_word : Bool → List ℕ
open_word false = codes "open"
open_word true = codes "closed"

abbrev pub kind_word : Kind → List ℕ
kind_word Whole = codes "whole"
kind_word Stopped = codes "stopped"
kind_word Edited = codes "edited"

-- CALLER:ENTRIES
abbrev pub count_word : Count → List ℕ
count_word count = decimal count.caller ++ 58 ∷ decimal count.entries

abbrev pub seat_words : Seat → List (List ℕ)
seat_words seat = codes "slots" ∷ decimal seat.slots ∷ codes "path" ∷ map cell_word seat.path

-- the clocks of the visits, where there is one
abbrev pub visits_words : List ℕ → List (List ℕ)
visits_words [] = []
visits_words (clock ∷ clocks) = codes "visits" ∷ map decimal (clock ∷ clocks)

-- who has the task
abbrev pub who_words : Option ℕ → List ℕ → List (List ℕ)
who_words None visits = codes "open" ∷ []
who_words (Some agent) visits = codes "agent" ∷ decimal agent ∷ visits_words visits

abbrev pub submission_words : Submission → List (List ℕ)
submission_words s =
    decimal s.caller ∷ s.task.client ∷ decimal s.task.submitted ∷ (who_words s.task.agent s.task.visits ++ codes "stops" ∷ map cell_word s.task.stops)

abbrev pub line_words : Line → List (List ℕ)
line_words lines.Title = codes "wlog" ∷ codes "3" ∷ []
line_words (lines.Before before) = codes "after" ∷ before_words before
line_words (lines.Rules rules) = codes "rules" ∷ rules_words rules
line_words (lines.State clock closed kind) = codes "state" ∷ decimal clock ∷ open_word closed ∷ kind_word kind ∷ []
line_words (lines.Entries counts) = codes "entries" ∷ map count_word counts
line_words (lines.Agents count) = codes "agents" ∷ decimal count ∷ []
line_words (lines.Agent seat) = codes "agent" ∷ seat_words seat
line_words (lines.Tasks count) = codes "tasks" ∷ decimal count ∷ []
line_words (lines.Task submission) = codes "task" ∷ submission_words submission
line_words lines.Begin = codes "begin" ∷ []

-- with one space between the words
abbrev pub front_line : Line → List ℕ
front_line line = line_of (line_words line)
