-- What keeps a run over files from beginning, before its input is read.
use Rattle.std.specs.Prelude.{◌≡◌, ◌⊎◌, ℕ, Bool, true, false, List, Option, None, IfSome, is_some}
use Rattle.wh_edge.specs.declared.trouble.Trouble.{Trouble}
use Rattle.wh_edge.specs.declared.trouble.Trouble.TheVariants as trouble
use Rattle.wh_options.specs.declared.chosen.Options.{Options}
use Rattle.wh_options.specs.declared.chosen.Options.TheVariants.{Check, Replay, Verify, Live, Serve, State}
use Rattle.wh_options.specs.declared.chosen.VehicleOptions.{VehicleOptions}
use Rattle.wh_convoy.specs.Standing.{IsDriven}

-- whether the options name a run over files
abbrev pub names_run : Options → Bool
names_run (Check o) = false
names_run (Replay o) = is_some o.log
names_run (Verify o) = false
names_run (Live o) = false
names_run (Serve o) = true
names_run (State o) = false

-- The file of arrivals was read, and has no line but the one with which it is begun, if that: no vehicle has carried the run out. A file
-- that tells its bytes was read as it was.
pub record IsOnFoot (arrivals : Option (List ℕ)) : Type 0 where
  pub text : List ℕ
  pub text_is : IfSome arrivals (λ held. text ≡ held)
  pub few : IsDriven text → ⊥

-- it has a line beyond its first: vehicles have carried the run out so far
pub record TellsOfVehicles (arrivals : Option (List ℕ)) : Type 0 where
  pub text : List ℕ
  pub text_is : IfSome arrivals (λ held. text ≡ held)
  pub more : IsDriven text

-- A run over files may begin. Is_own says whether standard output or standard error is one of these files: neither is. And vehicles carry it
-- out, or none has so far.
pub record MayBegin (is_own : Bool) (pace : Option VehicleOptions) (arrivals : Option (List ℕ)) : Type 0 where
  pub apart : is_own ≡ false
  pub on_foot : pace ≡ None → IsOnFoot arrivals

-- Why it may not, in this order: a stream is one of its files; then, where no vehicles carry it out, some have so far, or the file of arrivals
-- was not to be read, or memory ran out for it.
abbrev pub IsWhyBarred : (is_own : Bool) → (pace : Option VehicleOptions) → (arrivals : Option (List ℕ)) → Trouble → Type 0
IsWhyBarred is_own pace arrivals trouble.OwnOutput = is_own ≡ true
IsWhyBarred is_own pace arrivals trouble.Unmanned = (is_own ≡ false) × (pace ≡ None) × TellsOfVehicles arrivals
IsWhyBarred is_own pace arrivals trouble.Unkept = (is_own ≡ false) × (pace ≡ None)
IsWhyBarred is_own pace arrivals trouble.NoMemory = (is_own ≡ false) × (pace ≡ None)
IsWhyBarred is_own pace arrivals _ = ⊥

-- a run over files that the options name may begin
abbrev pub Begins : Options → (pace : Option VehicleOptions) → Type 0
Begins options pace = names_run options ≡ true → (is_own : Bool) × (arrivals : Option (List ℕ)) × MayBegin is_own pace arrivals

-- the options name one that may not, or memory ran out for the names of its files
abbrev pub IsBarred : Options → (pace : Option VehicleOptions) → Trouble → Type 0
IsBarred options pace told =
    (names_run options ≡ true) × ((told ≡ trouble.NoMemory) ⊎ ((is_own : Bool) × (arrivals : Option (List ℕ)) × IsWhyBarred is_own pace arrivals told))
