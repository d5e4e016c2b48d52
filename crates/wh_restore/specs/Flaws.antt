-- the flaws of a line of a front, behind what the lines before it tell
use Rattle.std.specs.Prelude.{◌≡◌, ◌≢◌, ◌++◌, List, [], ◌∷◌, false, None, length}
use Rattle.wh_points.specs.Points.{Site}
use Rattle.wh_front.specs.declared.rules.Rules.{Rules}
use Rattle.wh_front.specs.declared.line.Line.{Line}
use Rattle.wh_front.specs.declared.line.Line.TheVariants as lines
use Rattle.wh_stand.specs.declared.flaw.Flaw.TheVariants as flaws
use Rattle.wh_stand.specs.Parts.{Parts, begun, with_agent, with_task}
use Rattle.wh_stand.specs.TaskFlaws.{IsFitTask, IsTaskFlaw}
use Rattle.wh_stand.specs.Flawless.{IsAgentFlaw, IsFitAgent, NoneHasPaths, NoneHasTasks}
use Rattle.wh_restore.specs.declared.reason.Reason.{Reason}
use Rattle.wh_restore.specs.declared.reason.Reason.TheVariants as reasons

-- what lines tell of a run: its rules, and parts of the state with which it begins
pub record Heard : Type 0 where
  pub rules : Rules
  pub parts : Parts

-- before the first line: the rules are the defaults
abbrev pub unheard : Heard
unheard = record { rules = record { homes = false; age = None }; parts = begun 0 false }

-- with what one more line tells
abbrev pub hear : Heard → Line → Heard
hear h (lines.Rules rules) = record h { rules = rules }
hear h (lines.State clock closed kind) = record h { parts = begun clock closed }
hear h (lines.Agent seat) = record h { parts = with_agent seat.slots seat.path h.parts }
hear h (lines.Task submission) = record h { parts = with_task submission.task h.parts }
hear h line = h

-- with what more lines tell
abbrev pub hear_all : Heard → List Line → Heard
hear_all h [] = h
hear_all h (line ∷ lines) = hear_all (hear h line) lines

-- The first flaw of a line behind these. Rules must be those of the run, and where the line that would tell them is missing they are
-- the defaults; agents must be as many as the points have; and the judge of states finds no flaw of an agent or a task.
abbrev pub IsLineFlaw : Site → Rules → Heard → Line → Reason → Type 0
IsLineFlaw site rules h (lines.Rules other) reasons.Rules = other ≢ rules
IsLineFlaw site rules h (lines.State clock closed kind) reasons.Rules = h.rules ≢ rules
IsLineFlaw site rules h (lines.Agents count) (reasons.Flaw flaws.Agents) = count ≢ length site.layout.agents
IsLineFlaw site rules h (lines.Agent seat) (reasons.Flaw flaw) = IsAgentFlaw site h.parts seat.path flaw
IsLineFlaw site rules h (lines.Task submission) (reasons.Flaw flaw) = IsTaskFlaw site.layout h.parts submission.task flaw
IsLineFlaw site rules h line reason = ⊥

-- a line without a flaw behind these
abbrev pub IsFitLine : Site → Rules → Heard → Line → Type 0
IsFitLine site rules h (lines.Rules other) = other ≡ rules
IsFitLine site rules h (lines.State clock closed kind) = h.rules ≡ rules
IsFitLine site rules h (lines.Agents count) = count ≡ length site.layout.agents
IsFitLine site rules h (lines.Agent seat) = IsFitAgent site h.parts seat.path
IsFitLine site rules h (lines.Task submission) = IsFitTask site.layout h.parts submission.task
IsFitLine site rules h line = Unit {0}

-- lines each of which is without a flaw behind those before it
abbrev pub AreFit : Site → Rules → Heard → List Line → Type 0
AreFit site rules h [] = Unit {0}
AreFit site rules h (line ∷ lines) = IsFitLine site rules h line × AreFit site rules (hear h line) lines

-- no sound state has the agent, or the task, of the line behind these
abbrev pub NoneHasPart : Site → Heard → Line → Type 0
NoneHasPart site h (lines.Agent seat) = NoneHasPaths site (h.parts.paths ++ seat.path ∷ [])
NoneHasPart site h (lines.Task submission) = NoneHasTasks site (with_task submission.task h.parts)
NoneHasPart site h line = Unit {0}
