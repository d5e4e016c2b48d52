-- What a whole run of `state --stand` does.
use Rattle.std.specs.Prelude.{◌≡◌, ◌⊎◌, ◌<◌, ℕ, List, Option, None, IfSome, length, map, true, false}
use Rattle.std.specs.Io.KnownBytes.{Appends, Keeps}
use Rattle.wh_lines.specs.Input.{Input}
use Rattle.wh_lines.specs.Output.{WritesFront}
use Rattle.wh_grid.specs.declared.cell.Cell.{Cell}
use Rattle.wh_path.specs.Paths.{cell_at}
use Rattle.wh_points.specs.Points.{Site}
use Rattle.wh_drive.specs.Drives.{Drive, place}
use Rattle.wh_drive.specs.declared.vehicle.Vehicle.{Vehicle}
use Rattle.wh_order.specs.Orders.{Order, Represents}
use Rattle.wh_resume.specs.Resuming.{TellsBook}
use Rattle.wh_resume.specs.declared.recovery.Resumed.{Resumed}
use Rattle.wh_handover.specs.declared.front.HandoverFault.{HandoverFault}
use Rattle.wh_handover.specs.Handing.{IsWhyNone}
use Rattle.wh_handover.specs.Standing.{IsStoppedText, IsWhyNotStopped}
use Rattle.wh_convoy.specs.Standing.{IsWhyNotStood, StandsBy}
use Rattle.wh_convoy.specs.declared.finding.Stood.{Stood}
use Rattle.wh_convoy.specs.declared.finding.StoodFault.TheVariants as stood
use Rattle.wh_edge.specs.Site.{SiteFault, SiteRuled}
use Rattle.wh_edge.specs.declared.trouble.Trouble.{Trouble}
use Rattle.wh_edge.specs.declared.trouble.Trouble.TheVariants as trouble
use Rattle.wh_edge.specs.declared.trouble.Status.{Status}
use Rattle.wh_edge.specs.declared.trouble.Status.TheVariants as status
use Rattle.wh_options.specs.declared.chosen.StateOptions.{StateOptions}
use Rattle.wh_service.specs.States.{IsUnread, trouble_of}
use Rattle.wh_service.specs.declared.convoys.DriveTrouble.{DriveTrouble}
use Rattle.wh_service.specs.declared.convoys.DriveTrouble.TheVariants.{Plain, Arrivals, Astray}

-- ---- where vehicles stand
-- the cell of each vehicle of the order
pub record ArePlaces (order : Order) (places : List Cell) : Type 0 where
  pub all : length places ≡ length order.vehicles
  pub there : (d : Drive) → Represents order d → (agent : ℕ) → agent < length places → cell_at places agent ≡ place d agent

-- the step that each has reached
abbrev pub AreSteps : Order → List ℕ → Type 0
AreSteps order steps = steps ≡ map (λ (v : Vehicle). v.reached) order.vehicles

-- ---- the text
-- The text of the front of the state after all entries of the log, as vehicles of the order have left it.
pub record IsTextAsLeft (site : Site) (log : List ℕ) (order : Order) (told : List ℕ) : Type 0 where
  pub places : List Cell
  pub steps : List ℕ
  pub places_are : ArePlaces order places
  pub steps_are : AreSteps order steps
  pub is : IsStoppedText site log places steps told

-- why there is none
pub record HasNoneAsLeft (site : Site) (log : List ℕ) (order : Order) (told : Trouble) : Type 0 where
  pub places : List Cell
  pub steps : List ℕ
  pub places_are : ArePlaces order places
  pub steps_are : AreSteps order steps
  pub fault : HandoverFault
  pub why : IsWhyNotStopped site log places steps fault
  pub told_is : told ≡ trouble_of fault

-- memory ran out, or that
abbrev pub IsWhyNotLeft : Site → (log : List ℕ) → Order → Trouble → Type 0
IsWhyNotLeft site log order told = (told ≡ trouble.NoMemory) ⊎ HasNoneAsLeft site log order told

-- By the text of the file of arrivals the vehicles of the run that was recovered stand so, and this is the text of the front as they have
-- left it. Nothing is told ahead of them.
pub record TellsStand (resumed : Resumed) (log reports told : List ℕ) : Type 0 where
  pub stood : Stood
  pub stands : StandsBy resumed.book 1 resumed.preface reports stood
  pub is : IsTextAsLeft resumed.book.site log stood.order told

pub record HasNoText (resumed : Resumed) (log reports : List ℕ) (told : Trouble) : Type 0 where
  pub stood : Stood
  pub stands : StandsBy resumed.book 1 resumed.preface reports stood
  pub why : IsWhyNotLeft resumed.book.site log stood.order told

-- Why there is none: by the text no vehicles of the run stand anywhere; or memory ran out; or they do, and there is no such front.
abbrev pub IsWhyNoStand : Resumed → (log reports : List ℕ) → DriveTrouble → Type 0
IsWhyNoStand resumed log reports (Arrivals line) = IsWhyNotStood resumed.book 1 resumed.preface reports (stood.BadLine line)
IsWhyNoStand resumed log reports (Astray agent) = IsWhyNotStood resumed.book 1 resumed.preface reports (stood.Astray agent)
IsWhyNoStand resumed log reports (Plain told) = (told ≡ trouble.NoMemory) ⊎ HasNoText resumed log reports told

-- ---- over the files
-- By the site's rule nobody follows. The texts of a log and of its file of arrivals were read: that log tells of this run, and this is the
-- text of the front as its vehicles stand. A file that tells what it holds was read as it was.
pub record StandsByFiles (site : Site) (file arrivals : Option (List ℕ)) (told : List ℕ) : Type 0 where
  pub rule : site.layout.nofollow ≡ true
  pub log : List ℕ
  pub log_is : IfSome file (λ held. log ≡ held)
  pub resumed : Resumed
  pub site_is : resumed.book.site ≡ site
  pub tells : TellsBook site log resumed resumed.preface
  pub reports : List ℕ
  pub reports_are : IfSome arrivals (λ held. reports ≡ held)
  pub is : TellsStand resumed log reports told

-- by the site's rule an agent may follow another, so that no vehicles carry out its plan
abbrev pub IsLoose : Site → DriveTrouble → Type 0
IsLoose site told = (site.layout.nofollow ≡ false) × (told ≡ Plain trouble.MayFollow)

-- a file was not to be read, or memory ran out
abbrev pub IsUnreadable : DriveTrouble → Type 0
IsUnreadable told = (plain : Trouble) × IsUnread plain × (told ≡ Plain plain)

-- the log tells of no run over the site
pub record IsOfNone (site : Site) (file : Option (List ℕ)) (told : DriveTrouble) : Type 0 where
  pub log : List ℕ
  pub log_is : IfSome file (λ held. log ≡ held)
  pub fault : HandoverFault
  pub why : IsWhyNone site log None fault
  pub told_is : told ≡ Plain (trouble_of fault)

-- all was read, and there is no such front
pub record IsOfNoStand (site : Site) (file arrivals : Option (List ℕ)) (told : DriveTrouble) : Type 0 where
  pub log : List ℕ
  pub log_is : IfSome file (λ held. log ≡ held)
  pub resumed : Resumed
  pub site_is : resumed.book.site ≡ site
  pub tells : TellsBook site log resumed resumed.preface
  pub reports : List ℕ
  pub reports_are : IfSome arrivals (λ held. reports ≡ held)
  pub why : IsWhyNoStand resumed log reports told

abbrev pub IsWhyNotByFiles : Site → (file arrivals : Option (List ℕ)) → DriveTrouble → Type 0
IsWhyNotByFiles site file arrivals told =
    IsLoose site told ⊎ (IsUnreadable told ⊎ (IsOfNone site file told ⊎ IsOfNoStand site file arrivals told))

-- ---- the whole run
-- A site was read, and the front of the state as the vehicles stand is behind what was written.
pub record StatesStand (options : StateOptions) (old new : Input) (had has : Option (List ℕ)) (file arrivals : Option (List ℕ)) (ended : Status) : Type 0 where
  pub site : Site
  pub site_read : SiteRuled options.homes old new site
  pub told : List ℕ
  pub is : StandsByFiles site file arrivals told
  pub appends : Appends had has told
  pub ended_is : ended ≡ status.Done

-- of that front a beginning was written
pub record StatesStandShort (options : StateOptions) (why : DriveTrouble) (old new : Input) (had has : Option (List ℕ)) (file arrivals : Option (List ℕ)) : Type 0 where
  pub site : Site
  pub site_read : SiteRuled options.homes old new site
  pub told : List ℕ
  pub is : StandsByFiles site file arrivals told
  pub beginning : WritesFront had has told
  pub why_is : why ≡ Plain trouble.Unwritten

-- there is no site; or there is, and no such front
abbrev pub StatesNoStand : StateOptions → DriveTrouble → Input → Input → (file arrivals : Option (List ℕ)) → Type 0
StatesNoStand options told old new file arrivals =
    ((plain : Trouble) × SiteFault options.homes plain old new × (told ≡ Plain plain))
    ⊎ ((site : Site) × SiteRuled options.homes old new site × IsWhyNotByFiles site file arrivals told)

-- Why no front was told: nothing is written, or a beginning of it.
abbrev pub IsWhyUnstood : StateOptions → DriveTrouble → Input → Input → Option (List ℕ) → Option (List ℕ) → (file arrivals : Option (List ℕ)) → Type 0
IsWhyUnstood options told old new had has file arrivals =
    (StatesNoStand options told old new file arrivals × Keeps had has) ⊎ StatesStandShort options told old new had has file arrivals
