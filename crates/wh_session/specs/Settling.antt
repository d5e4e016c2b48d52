-- what waits is kept and told
use Rattle.std.specs.Prelude.{ℕ, List, Option}
use Rattle.std.specs.Io.KnownBytes.{Appends}
use Rattle.wh_session.specs.declared.fault.SessionFault.{SessionFault}
use Rattle.wh_session.specs.declared.fault.SessionFault.TheVariants.{Broken, Endless, Unwritten, Unkept, NoMemory, Failed}
use Rattle.wh_session.specs.Machines.{Records}
use Rattle.wh_session.specs.Sessions.{NotAllKept, NotAllTold}

-- not to its end
abbrev pub Unsettles : {H : Type 0} → (keeps leaves : H → Records → H → Type 0) → SessionFault → (said : List ℕ) → (came : Records) → (had has : Option (List ℕ)) → (stood stands : H) → Type 0
Unsettles keeps leaves Unkept said came had has stood stands = NotAllKept leaves Unkept came had has stood stands
Unsettles keeps leaves Unwritten said came had has stood stands = NotAllTold keeps Unwritten said came had has stood stands
Unsettles keeps leaves Broken said came had has stood stands = ⊥
Unsettles keeps leaves Endless said came had has stood stands = ⊥
Unsettles keeps leaves NoMemory said came had has stood stands = ⊥
Unsettles keeps leaves Failed said came had has stood stands = ⊥

abbrev pub SettlesFrom : {X : Type 0} → {S : Type 0} → {H : Type 0} → (X → S → Type 0) → (X → S → List ℕ) → (X → S → Records) → (H → Records → H → Type 0) → X → (had has : Option (List ℕ)) → (stood holds : H) → Type 0
SettlesFrom {X} {S} stands says logs keeps x had has stood holds = (s : S) → stands x s → keeps stood (logs x s) holds × Appends had has (says x s)

abbrev pub UnsettlesFrom : {X : Type 0} → {S : Type 0} → {H : Type 0} → (X → S → Type 0) → (X → S → List ℕ) → (X → S → Records) → (keeps leaves : H → Records → H → Type 0) → SessionFault → X → (had has : Option (List ℕ)) → (stood holds : H) → Type 0
UnsettlesFrom {X} {S} stands says logs keeps leaves fault x had has stood holds = (s : S) → stands x s → Unsettles keeps leaves fault (says x s) (logs x s) had has stood holds
