-- Out of memory for the name of the file beside a log: nothing was read or written.
use Rattle.std.proofs.Common.{◌≡◌, ℕ, Bool, true, false, List, [], Option, Some, None, Result, Err, inl, refl}
use Rattle.std.proofs.KnownBytes.{Keeps-refl}
use Rattle.std.specs.Prelude.{MatchBool, is_some}
use Rattle.std.specs.declared.alloc.AllocError.{AllocError}
use Rattle.wh_grid.specs.Grids.{Floor}
use Rattle.wh_lines.specs.Input.{Input}
use Rattle.wh_edge.specs.declared.trouble.Trouble.TheVariants as trouble
use Rattle.wh_options.specs.declared.chosen.Options.{Options}
use Rattle.wh_options.specs.declared.chosen.Options.TheVariants.{Check, Replay, Verify, Live, Serve, State}
use Rattle.wh_options.specs.declared.chosen.ReplayOptions.{ReplayOptions}
use Rattle.wh_options.specs.declared.chosen.VehicleOptions.{VehicleOptions}
use Rattle.wh_convoy.specs.Convoys.{Held}
use Rattle.wh_service.specs.Kept.{Siding}
use Rattle.wh_program.specs.Attending.{Attended}
use Rattle.wh_program.specs.Programs.{Did, Drove, Files, LateFiles, ReplayedOver, names_file}
use Rattle.wh_service.specs.declared.convoys.DriveTrouble.TheVariants.{Plain}
use Rattle.wh_service.specs.declared.parts.PlannerParts.{PlannerParts}

-- one of two, by whether it is so
pub whichever : (b : Bool) (P Q : Type 0) → P → (b ≡ false → Q) → MatchBool b P Q
whichever true P Q p q = p
whichever false P Q p q = q refl

module _ {X : Type 0} (fits : X → Floor → Bool) (count : X → ℕ) (gives : PlannerParts → Result X AllocError → Type 0) (input : Input) (had : Option (List ℕ)) where
  -- files for a replay that names some, or none
  over : {N : Type 0} (o : ReplayOptions) (report : List ℕ) (log : Option N) → (files : Option Files) × (is_some files ≡ is_some log) × ReplayedOver fits count gives o files (Err trouble.NoMemory) report input input had had
  over o report None = (None, refl, whichever o.deliver _ _ (inl (tt, Keeps-refl had)) (λ off. inl (tt, Keeps-refl had)))
  over o report (Some name) = (
    Some (record { log = None; site = None }),
    refl,
    (false, None, None, record { before = None; after = None; synced = None; failed = false }, refl, inl (tt, Keeps-refl had, refl, refl)),
  )

  pub starved : {R W : Type 0} (remaining : R → Option (List ℕ)) (contents : W → Option (List ℕ)) (report : List ℕ) → report ≡ [] → (o : Options) →
      (files : Option Files) × (is_some files ≡ names_file o) × Did fits count gives (Attended fits count gives remaining contents) o files (Err trouble.NoMemory) report input input had had
  starved remaining contents report none (Check o) = (None, refl, ((tt, Keeps-refl had), none))
  starved remaining contents report none (Verify o) = (None, refl, (whichever o.chain _ _ (Keeps-refl had) (λ off. Keeps-refl had), none))
  starved remaining contents report none (Live o) = (None, refl, (inl (tt, Keeps-refl had), none))
  starved remaining contents report none (Serve o) = (None, refl, ((refl, inl (refl, refl)), none))
  starved remaining contents report none (Replay o) = over o report o.log
  starved remaining contents report none (State o) = (None, refl, ((None, Keeps-refl had), none))

  -- the same with vehicles
  late_over : {N : Type 0} (o : ReplayOptions) (pace : VehicleOptions) (log : Option N) →
      (files : Option LateFiles) × (is_some files ≡ is_some log) × Drove fits count gives o pace files (Err (Plain trouble.NoMemory)) input input had had
  late_over o pace None = (None, refl, inl (tt, Keeps-refl had))
  late_over o pace (Some name) =
      let none : Held = record { log = None; arrivals = None } in
      let aside : Siding = record { before = None; after = None; synced = None; failed = false } in (
        Some (record { log = None; site = None; arrivals = None }),
        refl,
        (none, none, false, false, aside, refl, inl (trouble.NoMemory, refl, tt, (Keeps-refl had, refl, refl))),
      )

  pub starved_late : (o : ReplayOptions) (pace : VehicleOptions) →
      (files : Option LateFiles) × (is_some files ≡ is_some o.log) × Drove fits count gives o pace files (Err (Plain trouble.NoMemory)) input input had had
  starved_late o pace = late_over o pace o.log
