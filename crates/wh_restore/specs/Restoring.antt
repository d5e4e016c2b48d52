-- what is held of a front that is being restored
use Rattle.std.specs.Prelude.{◌≡◌, ℕ, ◌<◌, List, [], ◌∷◌, ◌++◌, false, map, length}
use Rattle.wh_points.specs.Points.{Site}
use Rattle.wh_core.specs.Steps.{most_tasks}
use Rattle.wh_front.specs.declared.rules.Rules.{Rules}
use Rattle.wh_front.specs.declared.front.Front.{Front}
use Rattle.wh_front.specs.declared.reader.NextFault.{NextFault}
use Rattle.wh_front.specs.declared.reader.NextFault.TheVariants as nexts
use Rattle.wh_front.specs.declared.front.Submission.{Submission}
use Rattle.wh_front.specs.declared.line.Line.{Line}
use Rattle.wh_front.specs.declared.line.Line.TheVariants as lines
use Rattle.wh_front.specs.Fronts.{Fits, front_text}
use Rattle.wh_front.specs.Drafts.{empty}
use Rattle.wh_stand.specs.declared.flaw.Refused.{Refused}
use Rattle.wh_stand.specs.declared.flaw.Refused.TheVariants as refused
use Rattle.wh_stand.specs.Parts.{Parts, begun}
use Rattle.wh_state.specs.Columns.{state_in}
use Rattle.wh_restore.specs.declared.reason.Reason.{Reason}
use Rattle.wh_restore.specs.declared.reason.Reason.TheVariants as reasons
use Rattle.wh_restore.specs.declared.reason.RestoreFault.{RestoreFault}
use Rattle.wh_restore.specs.declared.reason.RestoreFault.TheVariants as faults
use Rattle.wh_restore.specs.declared.reason.Refusal.{Refusal}
use Rattle.wh_restore.specs.declared.reason.Refusal.TheVariants as refusals
use Rattle.wh_restore.specs.declared.restored.Head.{Head}
use Rattle.wh_restore.specs.declared.restored.Restored.{Restored}
use Rattle.wh_restore.specs.declared.restoring.Restoring.{Restoring}
use Rattle.wh_restore.specs.SoundFronts.{parts_told, state_told}
use Rattle.wh_restore.specs.Flaws.{Heard}

-- what a front tells beside agents and tasks, and beside clock and flag
abbrev pub head_of : Front → Head
head_of f = record { before = f.before; rules = f.rules; kind = f.kind; counts = f.counts }

-- what was restored is what the front tells
pub record IsRestored (f : Front) (r : Restored) : Type 0 where
  pub head : r.head ≡ head_of f
  pub callers : r.callers ≡ map (λ (submission : Submission). submission.caller) f.tasks
  pub state : state_in r.state ≡ state_told f

-- what was told so far
abbrev pub heard_by : Restoring → Heard
heard_by r = record { rules = r.head.rules; parts = r.builder.parts }

-- with what one more line tells
abbrev pub with_head : Head → Line → Head
with_head head (lines.Before before) = record head { before = before }
with_head head (lines.Rules rules) = record head { rules = rules }
with_head head (lines.State clock closed kind) = record head { kind = kind }
with_head head (lines.Entries counts) = record head { counts = counts }
with_head head line = head

-- one more caller, if the line is of a task
abbrev pub with_caller : List ℕ → Line → List ℕ
with_caller callers (lines.Task submission) = callers ++ submission.caller ∷ []
with_caller callers line = callers

-- there is room for the line's task, if it is of one
abbrev pub HasRoom : Parts → Line → Type 0
HasRoom parts (lines.Task submission) = length parts.tasks < most_tasks
HasRoom parts line = Unit {0}

-- what is said of the reason, if it is not that memory ran out
abbrev pub Says : (Reason → Type 0) → Refusal → Type 0
Says P refusals.NoMemory = Unit {0}
Says P (refusals.Reason reason) = P reason

-- nothing was told yet
pub record IsUntold (r : Restoring) : Type 0 where
  pub head : r.head ≡ head_of empty
  pub parts : r.builder.parts ≡ begun 0 false
  pub callers : r.callers ≡ []

-- all that the front tells is held
pub record Holds (f : Front) (r : Restoring) : Type 0 where
  pub head : r.head ≡ head_of f
  pub parts : r.builder.parts ≡ parts_told f
  pub callers : r.callers ≡ map (λ (submission : Submission). submission.caller) f.tasks

-- the text begins with a front that is held; its rules are these, and its agents as many as the points have
pub record IsHeld (site : Site) (rules : Rules) (text rest : List ℕ) (r : Restoring) : Type 0 where
  pub front : Front
  pub fits : Fits front
  pub parts : text ≡ front_text front ++ rest
  pub holds : Holds front r
  pub rules_are : front.rules ≡ rules
  pub agents : length front.seats ≡ length site.layout.agents

-- what the judge of states refused
abbrev pub refusal_of : Refused → Refusal
refusal_of refused.NoMemory = refusals.NoMemory
refusal_of (refused.Flaw flaw) = refusals.Reason (reasons.Flaw flaw)

-- what a refusal says of a line
abbrev pub fault_at : ℕ → Refusal → RestoreFault
fault_at line refusals.NoMemory = faults.NoMemory
fault_at line (refusals.Reason reason) = faults.Line line reason

-- what a reader that stands before a line says of it
abbrev pub unread : ℕ → NextFault → RestoreFault
unread line nexts.Form = faults.Line line reasons.Form
unread line nexts.Count = faults.Line line reasons.Count
unread line nexts.NoMemory = faults.NoMemory
