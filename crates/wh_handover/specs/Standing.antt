-- what the front of a log tells that goes on as the vehicles of another really stand
use Rattle.std.specs.Prelude.{◌≡◌, ◌⊎◌, ℕ, List, [], ◌∷◌, ◌++◌, map, length, None}
use Rattle.wh_grid.specs.declared.cell.Cell.{Cell}
use Rattle.wh_points.specs.Points.{Site}
use Rattle.wh_core.specs.States.{State}
use Rattle.wh_core.specs.Steps.{Run}
use Rattle.wh_core.specs.Laws.{IsBeginning}
use Rattle.wh_core.specs.Stopping.{Stand}
use Rattle.wh_front.specs.declared.front.Front.{Front}
use Rattle.wh_front.specs.declared.rules.Kind.TheVariants as kind
use Rattle.wh_front.specs.Fronts.{Fits, front_text}
use Rattle.wh_restore.specs.SoundFronts.{IsSoundFront, state_told}
use Rattle.wh_restore.specs.FirstFlawed.{IsFirstFlawed}
use Rattle.wh_resume.specs.Behind.{rules_of}
use Rattle.wh_snapshot.specs.Snapshots.{told_parts, callers_told, submitters, counts_told}
use Rattle.wh_handover.specs.Handing.{Told, Tells, IsWhyNone, before_after}
use Rattle.wh_handover.specs.Stopped.{stopped_task}
use Rattle.wh_handover.specs.declared.front.HandoverFault.{HandoverFault}
use Rattle.wh_handover.specs.declared.front.HandoverFault.TheVariants as fault

-- The front tells the state after all entries of the log that the text holds, stopped where its vehicles stand at these places and have
-- reached these steps; and what was before: that log, as far as its entries.
pub record IsStoppedFront (site : Site) (text : List ℕ) (places : List Cell) (steps : List ℕ) (front : Front) : Type 0 where
  pub told : Told
  pub tells : Tells site text told
  pub state : State
  pub run : Run site told.opening told.entries state
  pub clock : front.clock ≡ state.clock
  pub closed : front.closed ≡ state.closed
  pub paths : (told_parts front).paths ≡ map (λ cell. cell ∷ []) places
  pub slots : (told_parts front).slots ≡ state.slots
  pub tasks : (told_parts front).tasks ≡ map (stopped_task told.opening.clock steps) state.tasks
  pub callers : callers_told front ≡ told.callers ++ submitters told.entries
  pub counts : front.counts ≡ counts_told told.counts told.entries
  pub before_is : front.before ≡ before_after (length told.entries) told
  pub rules_are : front.rules ≡ rules_of site
  pub kind_is : front.kind ≡ kind.Stopped
  pub fits : Fits front

-- The text of such a front, with whose state a run over the site may begin: so each vehicle stands at a passable cell, and no two at one.
pub record IsStoppedText (site : Site) (text : List ℕ) (places : List Cell) (steps : List ℕ) (told : List ℕ) : Type 0 where
  pub front : Front
  pub is : IsStoppedFront site text places steps front
  pub told_is : told ≡ front_text front
  pub begins : IsBeginning site (state_told front)
  pub stand : Stand site places

-- in this text of a front this is the first line with a flaw, and its first
abbrev pub IsUnsound : Site → List ℕ → HandoverFault → Type 0
IsUnsound site told (fault.Flawed line reason) = IsFirstFlawed site (rules_of site) told line reason
IsUnsound site told fault.NoMemory = Unit {0}
IsUnsound site told _ = ⊥

-- Why there is no such text: there is no front of the state after all entries; or that as its vehicles stand has a flaw.
abbrev pub IsWhyNotStopped : Site → List ℕ → List Cell → List ℕ → HandoverFault → Type 0
IsWhyNotStopped site text places steps why =
    IsWhyNone site text None why ⊎ ((front : Front) × IsStoppedFront site text places steps front × IsUnsound site (front_text front) why)

-- a front of a sound state stands at the beginning of this text
abbrev pub HoldsSound : Site → List ℕ → Type 0
HoldsSound site told = (front : Front) × (rest : List ℕ) × IsSoundFront site (rules_of site) front × (told ≡ front_text front ++ rest)
