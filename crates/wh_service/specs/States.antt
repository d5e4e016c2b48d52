-- What a whole run of `state` does.
use Rattle.std.specs.Prelude.{◌≡◌, ◌⊎◌, ℕ, List, Bool, Option, IfSome}
use Rattle.std.specs.Io.KnownBytes.{Appends, Keeps}
use Rattle.wh_lines.specs.Input.{Input}
use Rattle.wh_lines.specs.Output.{WritesFront}
use Rattle.wh_points.specs.Points.{Site}
use Rattle.wh_edge.specs.Site.{SiteFault, SiteRuled}
use Rattle.wh_edge.specs.declared.trouble.Trouble.{Trouble}
use Rattle.wh_edge.specs.declared.trouble.Trouble.TheVariants as trouble
use Rattle.wh_edge.specs.declared.trouble.Status.{Status}
use Rattle.wh_edge.specs.declared.trouble.Status.TheVariants as status
use Rattle.wh_front.specs.declared.front.Front.{Front}
use Rattle.wh_front.specs.Fronts.{front_text}
use Rattle.wh_handover.specs.declared.front.HandoverFault.{HandoverFault}
use Rattle.wh_handover.specs.declared.front.HandoverFault.TheVariants as fault
use Rattle.wh_handover.specs.Handing.{IsHandover, IsWhyNone}
use Rattle.wh_options.specs.declared.chosen.StateOptions.{StateOptions}

-- the error of a log that tells no state to go on from
abbrev pub trouble_of : HandoverFault → Trouble
trouble_of fault.Empty = trouble.Unkept
trouble_of (fault.Flawed line reason) = trouble.Front reason line
trouble_of (fault.Bad line) = trouble.Log line
trouble_of fault.NoMemory = trouble.NoMemory

-- a site was read by the rule that was asked for, and the text of a log from a file that tells this, if it tells what it holds
pub record LogHeld (homes : Bool) (old new : Input) (file : Option (List ℕ)) (site : Site) (text : List ℕ) : Type 0 where
  pub site_read : SiteRuled homes old new site
  pub text_is : IfSome file (λ held. text ≡ held)

-- A site and the text of a log were read, and the front that goes on from there stands behind what was written.
pub record States (options : StateOptions) (old new : Input) (had has : Option (List ℕ)) (file : Option (List ℕ)) (ended : Status) : Type 0 where
  pub site : Site
  pub text : List ℕ
  pub held : LogHeld options.homes old new file site text
  pub front : Front
  pub is : IsHandover site text options.after front
  pub appends : Appends had has (front_text front)
  pub ended_is : ended ≡ status.Done

-- they were read, and of that front a beginning was written
pub record StatesUnwritten (options : StateOptions) (old new : Input) (had has : Option (List ℕ)) (file : Option (List ℕ)) : Type 0 where
  pub site : Site
  pub text : List ℕ
  pub held : LogHeld options.homes old new file site text
  pub front : Front
  pub is : IsHandover site text options.after front
  pub beginning : WritesFront had has (front_text front)

-- they were read, and there is no such front
pub record StatesNone (options : StateOptions) (told : Trouble) (old new : Input) (file : Option (List ℕ)) : Type 0 where
  pub site : Site
  pub text : List ℕ
  pub held : LogHeld options.homes old new file site text
  pub fault : HandoverFault
  pub why : IsWhyNone site text options.after fault
  pub told_is : told ≡ trouble_of fault

-- the file was not read, or memory ran out for it
abbrev pub IsUnread : Trouble → Type 0
IsUnread trouble.Unkept = Unit {0}
IsUnread trouble.NoMemory = Unit {0}
IsUnread _ = ⊥

-- Why no state was told: there is no site; a site was read, and not the file, or its log tells none; memory ran out; or the front was not
-- written to its end. But for that nothing is written.
abbrev pub IsWhyUnstated : StateOptions → Trouble → Input → Input → Option (List ℕ) → Option (List ℕ) → (file : Option (List ℕ)) → Type 0
IsWhyUnstated options trouble.Unwritten old new had has file = StatesUnwritten options old new had has file
IsWhyUnstated options trouble.NoMemory old new had has file = Keeps had has
IsWhyUnstated options trouble.Unkept old new had has file = ((site : Site) × SiteRuled options.homes old new site) × Keeps had has
IsWhyUnstated options told old new had has file = (SiteFault options.homes told old new ⊎ StatesNone options told old new file) × Keeps had has
