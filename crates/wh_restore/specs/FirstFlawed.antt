-- the first line of a text with a flaw
use Rattle.std.specs.Prelude.{◌≡◌, ℕ, ◌+◌, List, [], ◌∷◌, ◌++◌, map, length}
use Rattle.wh_text.specs.Lines.{IsLine}
use Rattle.wh_words.specs.Lines.{text_of}
use Rattle.wh_points.specs.Points.{Site}
use Rattle.wh_front.specs.declared.rules.Rules.{Rules}
use Rattle.wh_front.specs.declared.line.Line.{Line}
use Rattle.wh_front.specs.declared.stage.Stage.{Stage}
use Rattle.wh_front.specs.Spelling.{front_line}
use Rattle.wh_front.specs.Places.{start, behind_all, IsMiscount}
use Rattle.wh_front.specs.FirstBad.{BeginsFront, IsNext, IsNoNext}
use Rattle.wh_restore.specs.declared.reason.Reason.{Reason}
use Rattle.wh_restore.specs.declared.reason.Reason.TheVariants as reasons
use Rattle.wh_restore.specs.SoundFronts.{HasNoSoundFront, BeginsSoundFront}
use Rattle.wh_restore.specs.Flaws.{unheard, hear_all, IsLineFlaw, AreFit}

-- the text of lines, each with its line feed
abbrev pub lines_text : List Line → List ℕ
lines_text lines = text_of (map front_line lines)

-- what comes behind these lines
abbrev pub stage_behind : List Line → Stage
stage_behind lines = (behind_all start lines).stage

-- The text begins with a line that may come behind these, and this is its first flaw.
pub record HasFlaw (site : Site) (rules : Rules) (before : List Line) (text : List ℕ) (reason : Reason) : Type 0 where
  pub line : Line
  pub rest : List ℕ
  pub next : IsNext (stage_behind before) text line rest
  pub flaw : IsLineFlaw site rules (hear_all unheard before) line reason

-- The first flaw of what stands behind these lines. Form: it begins with no line that may come next. Count: for it tells of fewer or
-- more agents or tasks than were told.
abbrev pub IsFirstFlaw : Site → Rules → List Line → List ℕ → Reason → Type 0
IsFirstFlaw site rules before text reasons.Form = IsNoNext (stage_behind before) text × ¬ IsMiscount (stage_behind before) text
IsFirstFlaw site rules before text reasons.Count = IsNoNext (stage_behind before) text × IsMiscount (stage_behind before) text
IsFirstFlaw site rules before text reason = HasFlaw site rules before text reason

-- The text begins with no front of a sound state. The lines before this one begin a front, and none of them has a flaw; the first flaw
-- of the line that stands here is this; and with it no front of a sound state begins.
pub record IsFirstFlawed (site : Site) (rules : Rules) (text : List ℕ) (number : ℕ) (reason : Reason) : Type 0 where
  pub none : HasNoSoundFront site rules text
  pub before : List Line
  pub rest : List ℕ
  pub parts : text ≡ lines_text before ++ rest
  pub place : number ≡ length before + 1
  pub begins : BeginsFront (lines_text before)
  pub fit : AreFit site rules unheard before
  pub flaw : IsFirstFlaw site rules before rest reason
  pub ends : (line more : List ℕ) → IsLine line → rest ≡ line ++ 10 ∷ more → BeginsSoundFront site rules (lines_text before ++ (line ++ 10 ∷ [])) → ⊥
