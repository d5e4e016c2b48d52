-- Where a reader of a front stands.
use Rattle.std.specs.Prelude.{◌≡◌, ℕ, ◌+◌, ◌-◌, Bool, true, false, List, [], ◌∷◌, ◌++◌}
use Rattle.wh_front.specs.declared.line.Line.{Line}
use Rattle.wh_front.specs.declared.line.Line.TheVariants as lines
use Rattle.wh_front.specs.declared.stage.Stage.{Stage}
use Rattle.wh_front.specs.declared.stage.Stage.TheVariants as stages
use Rattle.wh_front.specs.declared.place.Place.{Place}
use Rattle.wh_front.specs.declared.form_fault.FormFault.{FormFault}
use Rattle.wh_front.specs.declared.form_fault.FormFault.TheVariants as forms
use Rattle.wh_front.specs.declared.reader.FrontFault.{FrontFault}
use Rattle.wh_front.specs.declared.reader.FrontFault.TheVariants as bad
use Rattle.wh_front.specs.declared.reader.NextFault.{NextFault}
use Rattle.wh_front.specs.declared.reader.NextFault.TheVariants as faults
use Rattle.wh_front.specs.Spelling.{front_line}
use Rattle.wh_front.specs.Ranges.{LineFits}
use Rattle.wh_front.specs.Drafts.{behind_seat, behind_task}

-- what callers see of a reader: the text that is left, the number of its first line, and what comes next
pub record Reach : Type 0 where
  pub rest : List ℕ
  pub number : ℕ
  pub place : Place

-- the place before the first line
abbrev pub start : Place
start = record { stage = stages.Title; left = 0 }

-- the place behind a line that is expected
abbrev pub behind : Place → Line → Place
behind p lines.Title = record { stage = stages.Before; left = 0 }
behind p (lines.Before before) = record { stage = stages.Rules; left = 0 }
behind p (lines.Rules rules) = record { stage = stages.State; left = 0 }
behind p (lines.State clock closed kind) = record { stage = stages.Entries; left = 0 }
behind p (lines.Entries counts) = record { stage = stages.Agents; left = 0 }
behind p (lines.Agents count) = record { stage = stages.Seats; left = count }
behind p (lines.Agent seat) = record { stage = behind_seat 0 (p.left - 1); left = p.left - 1 }
behind p (lines.Tasks count) = record { stage = behind_task 0 count; left = count }
behind p (lines.Task submission) = record { stage = behind_task 0 (p.left - 1); left = p.left - 1 }
behind p lines.Begin = record { stage = stages.Done; left = 0 }

-- the place behind some lines
abbrev pub behind_all : Place → List Line → Place
behind_all p [] = p
behind_all p (line ∷ lines) = behind_all (behind p line) lines

-- Fewer or more agents or tasks come than were told: the line is one of those that follow them where another of them is due, or
-- one of them where none is.
abbrev pub miscounts : Stage → Line → Bool
miscounts stages.Seats (lines.Tasks count) = true
miscounts stages.Tasks (lines.Agent seat) = true
miscounts stages.Submissions lines.Begin = true
miscounts stages.Begin (lines.Task submission) = true
miscounts _ _ = false

-- the text begins with such a line
pub record IsMiscount (stage : Stage) (text : List ℕ) : Type 0 where
  pub line : Line
  pub rest : List ℕ
  pub fits : LineFits line
  pub miscounted : miscounts stage line ≡ true
  pub text_is : text ≡ front_line line ++ 10 ∷ rest

-- what a line that was not read is for a reader
abbrev pub fault_of : FormFault → NextFault
fault_of forms.Form = faults.Form
fault_of forms.NoMemory = faults.NoMemory

-- what a reader that stands before a line says of the front
abbrev pub fault_at : ℕ → NextFault → FrontFault
fault_at line faults.Form = bad.At line
fault_at line faults.Count = bad.At line
fault_at line faults.NoMemory = bad.NoMemory
