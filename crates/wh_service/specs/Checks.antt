-- What a whole run of `check` does.
use Rattle.std.specs.Prelude.{◌≡◌, ◌<◌, ℕ, Bool, List, [], ◌∷◌, ◌++◌, codes, decimal, length, Option}
use Rattle.std.specs.Io.KnownBytes.{Appends, Keeps}
use Rattle.wh_lines.specs.Input.{Input}
use Rattle.wh_lines.specs.Output.{WritesFront}
use Rattle.wh_points.specs.Points.{Layout, Site, point_at}
use Rattle.wh_edge.specs.Site.{SiteFault, SiteRuled}
use Rattle.wh_edge.specs.declared.trouble.Trouble.{Trouble}
use Rattle.wh_edge.specs.declared.trouble.Trouble.TheVariants as trouble
use Rattle.wh_edge.specs.declared.trouble.Status.{Status}
use Rattle.wh_edge.specs.declared.trouble.Status.TheVariants as status
use Rattle.wh_formed.specs.Verdicts.{IsVerdict}
use Rattle.wh_formed.specs.declared.verdict.Verdict.{Verdict}
use Rattle.wh_formed.specs.declared.verdict.Verdict.TheVariants.{FewParkings, Cut, Formed}

-- the name of the point of a number
abbrev pub name_at : Layout → ℕ → List ℕ
name_at layout number = (point_at layout.points number).name

-- what is told of a verdict
abbrev pub verdict_words : Layout → Verdict → List ℕ
verdict_words layout Formed = codes "formed"
verdict_words layout (FewParkings have need) = codes "few parkings " ++ decimal have ++ codes " " ++ decimal need
verdict_words layout (Cut a b) = codes "cut " ++ name_at layout a ++ codes " " ++ name_at layout b

-- the line that tells it
unfoldable pub verdict_text : Layout → Verdict → List ℕ
verdict_text layout verdict = verdict_words layout verdict ++ 10 ∷ []

-- the points that a verdict names are there
abbrev pub IsNamed : Layout → Verdict → Type 0
IsNamed layout Formed = Unit {0}
IsNamed layout (FewParkings have need) = Unit {0}
IsNamed layout (Cut a b) = (a < length layout.points) × (b < length layout.points)

-- a site that is not well-formed is told by status 1
abbrev pub status_of : Verdict → Status
status_of Formed = status.Done
status_of (FewParkings have need) = status.Refused
status_of (Cut a b) = status.Refused

-- A site was read by the rule that was asked for, here and below, and the line of its verdict stands behind what was written.
pub record Judges (homes : Bool) (old new : Input) (had has : Option (List ℕ)) (ended : Status) : Type 0 where
  pub site : Site
  pub site_read : SiteRuled homes old new site
  pub verdict : Verdict
  pub verdict_is : IsVerdict site verdict
  pub appends : Appends had has (verdict_text site.layout verdict)
  pub ended_is : ended ≡ status_of verdict

-- a site was read, and of the line of its verdict a front was written
pub record JudgesUnwritten (homes : Bool) (old new : Input) (had has : Option (List ℕ)) : Type 0 where
  pub site : Site
  pub site_read : SiteRuled homes old new site
  pub verdict : Verdict
  pub verdict_is : IsVerdict site verdict
  pub front : WritesFront had has (verdict_text site.layout verdict)

-- Why no verdict was told: there is no site, or memory ran out, and nothing is written; or the line of the verdict was not
-- written to its end.
abbrev pub IsWhyUnjudged : (homes : Bool) → Trouble → Input → Input → Option (List ℕ) → Option (List ℕ) → Type 0
IsWhyUnjudged homes trouble.Unwritten old new had has = JudgesUnwritten homes old new had has
IsWhyUnjudged homes told old new had has = SiteFault homes told old new × Keeps had has
