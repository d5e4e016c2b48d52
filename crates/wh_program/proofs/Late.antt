-- A replay with vehicles over its files.
use Rattle.std.proofs.Common.{◌≡◌, ℕ, Bool, List, Option, Some, Result, Ok, Err}
use Rattle.std.specs.Prelude.{IfOk, IfErr}
use Rattle.std.specs.declared.alloc.AllocError.{AllocError}
use Rattle.wh_grid.specs.Grids.{Floor}
use Rattle.wh_lines.specs.Input.{Input}
use Rattle.wh_options.specs.declared.chosen.ReplayOptions.{ReplayOptions}
use Rattle.wh_options.specs.declared.chosen.VehicleOptions.{VehicleOptions}
use Rattle.wh_convoy.specs.Convoys.{Held}
use Rattle.wh_service.specs.Convoys.{IsWhyUnconvoyed, ServesConvoy}
use Rattle.wh_service.specs.Kept.{Siding}
use Rattle.wh_service.specs.Plays.{form_of}
use Rattle.wh_service.specs.declared.convoys.DriveTrouble.{DriveTrouble}
use Rattle.wh_service.specs.declared.parts.PlannerParts.{PlannerParts}
use Rattle.wh_program.specs.Programs.{Drove, LateFiles}
use Rattle.wh_journal.specs.Journals.{log_asker}

abbrev record_of : Option (List ℕ) → Option (List ℕ) → Held
record_of log arrivals = record { log = log; arrivals = arrivals }

-- over files that were named it came to this
pub drove_over : {X : Type 0} (fits : X → Floor → Bool) (count : X → ℕ) (gives : PlannerParts → Result X AllocError → Type 0) (o : ReplayOptions) (pace : VehicleOptions) (files : LateFiles) (came : Result ℕ DriveTrouble)
    (old new : Input) (had has : Option (List ℕ)) (holds synced : Held) (log_failed arrivals_failed : Bool) (beside : Siding) → beside.before ≡ files.site
    → IfOk came (λ left. ServesConvoy fits count (log_asker (form_of o.replies)) gives o.fleet o.tail o.told o.anew pace old new had has (record_of files.log files.arrivals) holds synced beside left)
    → IfErr came (λ told. IsWhyUnconvoyed fits count (log_asker (form_of o.replies)) gives o.fleet o.tail o.told o.anew pace told old new had has (record_of files.log files.arrivals) holds synced log_failed arrivals_failed beside)
    → Drove fits count gives o pace (Some files) came old new had has
drove_over fits count gives o pace files (Ok left) old new had has holds synced log_failed arrivals_failed beside is ok err = (holds, synced, beside, is, ok)
drove_over fits count gives o pace files (Err told) old new had has holds synced log_failed arrivals_failed beside is ok err = (holds, synced, log_failed, arrivals_failed, beside, is, err)
