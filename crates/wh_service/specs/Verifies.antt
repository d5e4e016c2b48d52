-- What a whole run of `verify` does.
use Rattle.std.specs.Prelude.{◌≡◌, ◌⊎◌, ℕ, ◌≤◌, Bool, true, false, List, [], ◌∷◌, ◌++◌, codes, decimal, length, Option, Some, None}
use Rattle.std.specs.Io.KnownBytes.{Appends, Keeps}
use Rattle.wh_lines.specs.Input.{Input}
use Rattle.wh_lines.specs.Output.{WritesFront}
use Rattle.wh_lines.specs.Section.{Overflows, Sectioned}
use Rattle.wh_points.specs.Points.{Site}
use Rattle.wh_edge.specs.Site.{Breaks, SiteFault, SiteRuled}
use Rattle.wh_edge.specs.declared.trouble.Trouble.{Trouble}
use Rattle.wh_edge.specs.declared.trouble.Trouble.TheVariants as trouble
use Rattle.wh_edge.specs.declared.trouble.Status.{Status}
use Rattle.wh_edge.specs.declared.trouble.Status.TheVariants as status
use Rattle.wh_judge.specs.declared.verifier.VerifiedFront.{VerifiedFront}
use Rattle.wh_resume.specs.Behind.{IsVersionThree}
use Rattle.wh_resume.specs.Judging.{SaysOfThree, SaysOfTwo}
use Rattle.wh_options.specs.declared.chosen.VerifyOptions.{VerifyOptions}
use Rattle.wh_judge.specs.declared.verifier.Verified.{Verified}
use Rattle.wh_judge.specs.declared.verifier.Verified.TheVariants.{Run, Bad}

-- what is told behind a log of a run that lacks its last line
abbrev pub unended_text : (is_ended : Bool) → List ℕ
unended_text true = []
unended_text false = codes " unended"

-- the line that tells what a text is
unfoldable pub verified_text : Verified → (is_ended : Bool) → List ℕ
verified_text (Run entries) is_ended = codes "run " ++ decimal entries ++ unended_text is_ended ++ 10 ∷ []
verified_text (Bad line) is_ended = codes "bad " ++ decimal line ++ 10 ∷ []

-- What is said of a text where logs of version 1 and 2 alone are taken, or those of version 3 too.
abbrev pub SaysByVersion : (wlog : Option ℕ) → (unended : Bool) → Site → List ℕ → VerifiedFront → Type 0
SaysByVersion None unended site log said = SaysOfTwo site unended log said
SaysByVersion (Some version) unended site log said =
    ((¬ IsVersionThree log) → SaysOfTwo site unended log said) × (IsVersionThree log → SaysOfThree site unended log said.verified said.is_ended)

-- what is said of a text by the options
abbrev pub IsVerdict : VerifyOptions → Site → List ℕ → VerifiedFront → Type 0
IsVerdict options site log said = SaysByVersion options.wlog options.unended site log said

-- a text that is no log of a run is told by status 1
abbrev pub status_of_log : Verified → Status
status_of_log (Run entries) = status.Done
status_of_log (Bad line) = status.Refused

-- a site was read by the rule that was asked for, here and below, and then the section of the log
pub record LogRead (homes : Bool) (old new : Input) (site : Site) (log : List ℕ) : Type 0 where
  pub between : Input
  pub site_read : SiteRuled homes old between site
  pub section : Sectioned between new log
  pub within : length log ≤ 268435456

-- A site and a text were read, and the line that tells what the text is stands behind what was written.
pub record Verifies (options : VerifyOptions) (old new : Input) (had has : Option (List ℕ)) (ended : Status) : Type 0 where
  pub site : Site
  pub log : List ℕ
  pub log_read : LogRead options.homes old new site log
  pub said : VerifiedFront
  pub says : IsVerdict options site log said
  pub appends : Appends had has (verified_text said.verified said.is_ended)
  pub ended_is : ended ≡ status_of_log said.verified

-- a site and a text were read, and of the line that tells what the text is a front was written
pub record VerifiesUnwritten (options : VerifyOptions) (old new : Input) (had has : Option (List ℕ)) : Type 0 where
  pub site : Site
  pub log : List ℕ
  pub log_read : LogRead options.homes old new site log
  pub said : VerifiedFront
  pub says : IsVerdict options site log said
  pub front : WritesFront had has (verified_text said.verified said.is_ended)

-- why the section of the log was not read
abbrev pub IsWhyNoLog : Trouble → Input → Input → Type 0
IsWhyNoLog trouble.SectionTooLong old new = Overflows old new 268435456
IsWhyNoLog trouble.Broken old new = Breaks old new
IsWhyNoLog trouble.Endless old new = new.reads ≡ 100000000
IsWhyNoLog trouble.NoMemory old new = Unit {0}
IsWhyNoLog _ old new = ⊥

-- a site was read, and behind it no log
pub record LogFault (homes : Bool) (told : Trouble) (old new : Input) : Type 0 where
  pub site : Site
  pub between : Input
  pub site_read : SiteRuled homes old between site
  pub why : IsWhyNoLog told between new

-- Why nothing was told: there is no site, or behind it no log, or memory ran out, and nothing is written; or the line was
-- not written to its end.
abbrev pub IsWhyUnverified : VerifyOptions → Trouble → Input → Input → Option (List ℕ) → Option (List ℕ) → Type 0
IsWhyUnverified options trouble.Unwritten old new had has = VerifiesUnwritten options old new had has
IsWhyUnverified options trouble.NoMemory old new had has = Keeps had has
IsWhyUnverified options told old new had has = (SiteFault options.homes told old new ⊎ LogFault options.homes told old new) × Keeps had has
