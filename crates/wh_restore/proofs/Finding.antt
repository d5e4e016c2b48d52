-- What is held at the end of a front is what any front tells with which the text begins; and where one stands no line has a flaw.
use Rattle.std.proofs.Common.{◌≡◌, ℕ, List, ◌++◌, refl, sym, ap, ◌∙◌, subst}
use Rattle.wh_points.specs.Points.{Site}
use Rattle.wh_front.specs.declared.rules.Rules.{Rules}
use Rattle.wh_front.specs.declared.front.Front.{Front}
use Rattle.wh_front.specs.Fronts.{front_text}
use Rattle.wh_front.proofs.Readings.{one_front}
use Rattle.wh_stand.specs.Parts.{Parts, state_of}
use Rattle.wh_state.specs.Columns.{state_in}
use Rattle.wh_restore.specs.declared.reason.Reason.{Reason}
use Rattle.wh_restore.specs.declared.reason.RestoreFault.{RestoreFault}
use Rattle.wh_restore.specs.declared.reason.RestoreFault.TheVariants as faults
use Rattle.wh_restore.specs.declared.restored.Restored.{Restored}
use Rattle.wh_restore.specs.declared.restoring.Restoring.{Restoring}
use Rattle.wh_restore.specs.SoundFronts.{parts_told, state_told, IsSoundFront}
use Rattle.wh_restore.specs.FirstFlawed.{IsFirstFlawed}
use Rattle.wh_restore.specs.Restoring.{IsRestored, IsHeld}

-- what was held is what is handed out
pub record IsMade (r : Restoring) (x : Restored) : Type 0 where
  pub head : x.head ≡ r.head
  pub callers : x.callers ≡ r.callers
  pub state : state_in x.state ≡ state_of r.builder.parts

state_is : (f : Front) (r : Restoring) (x : Restored) → r.builder.parts ≡ parts_told f → IsMade r x → state_in x.state ≡ state_told f
state_is f r x parts made = made.state ∙ ap (λ (p : Parts). state_of p) parts

pub held_only : (site : Site) (rules : Rules) (text rest : List ℕ) (r : Restoring) (x : Restored) → IsHeld site rules text rest r → IsMade r x
    → (front : Front) (y : List ℕ) → IsSoundFront site rules front → text ≡ front_text front ++ y → IsRestored front x × (rest ≡ y)
held_only site rules text rest r x h made front y sound is =
    let same = one_front h.front front rest y h.fits sound.fits (sym h.parts ∙ is) in (
      subst (λ (f : Front). IsRestored f x) same.0 (record { head = made.head ∙ h.holds.head; callers = made.callers ∙ h.holds.callers; state = state_is h.front r x h.holds.parts made }),
      same.1,
    )

-- each line that is told has a flaw
abbrev pub TellsFlaw : Site → Rules → List ℕ → RestoreFault → Type 0
TellsFlaw site rules text fault = (n : ℕ) (reason : Reason) → fault ≡ faults.Line n reason → IsFirstFlawed site rules text n reason

-- where a front of a sound state stands, memory ran out
pub flawed_only : (site : Site) (rules : Rules) (text : List ℕ) (fault : RestoreFault) → TellsFlaw site rules text fault → (front : Front) (y : List ℕ) → IsSoundFront site rules front → text ≡ front_text front ++ y → fault ≡ faults.NoMemory
flawed_only site rules text faults.NoMemory told front y sound is = refl
flawed_only site rules text (faults.Line n reason) told front y sound is = absurd ((told n reason refl).none front y sound is)

-- ---- at a site and rules that are these
pub tells_flaw : (site other : Site) (rules others : Rules) (text : List ℕ) (fault : RestoreFault) → other ≡ site → others ≡ rules → TellsFlaw other others text fault → TellsFlaw site rules text fault
tells_flaw site other rules others text fault same are told =
    subst (λ (x : Site). TellsFlaw x rules text fault) same (subst (λ (x : Rules). TellsFlaw other x text fault) are told)

pub held_at : (site other : Site) (rules others : Rules) (text rest : List ℕ) (r : Restoring) → other ≡ site → others ≡ rules → IsHeld other others text rest r → IsHeld site rules text rest r
held_at site other rules others text rest r same are held =
    subst (λ (x : Site). IsHeld x rules text rest r) same (subst (λ (x : Rules). IsHeld other x text rest r) are held)
