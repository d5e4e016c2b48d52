-- What `state` comes to.
use Rattle.std.proofs.Common.{ℕ, List, Option, Result, Ok, Err}
use Rattle.std.specs.Prelude.{IfErr, IfOk}
use Rattle.wh_lines.specs.Input.{Input}
use Rattle.wh_edge.specs.declared.trouble.Status.{Status}
use Rattle.wh_edge.specs.declared.trouble.Trouble.{Trouble}
use Rattle.wh_options.specs.declared.chosen.StateOptions.{StateOptions}
use Rattle.wh_service.specs.Stands.{IsWhyUnstood, StatesStand}
use Rattle.wh_service.specs.States.{IsWhyUnstated, States}
use Rattle.wh_service.specs.declared.convoys.DriveTrouble.{DriveTrouble}
use Rattle.wh_program.specs.Programs.{StatedOver, StatedOverBoth}

-- over a file that told this
pub stated_over : (o : StateOptions) (file : Option (List ℕ)) (came : Result Status Trouble) (old new : Input) (had has : Option (List ℕ)) →
    IfOk came (λ status. States o old new had has file status) → IfErr came (λ told. IsWhyUnstated o told old new had has file) → StatedOver o file came old new had has
stated_over o file (Ok status) old new had has ok err = ok
stated_over o file (Err told) old new had has ok err = err

-- as the vehicles stand
pub stated_over_both : (o : StateOptions) (file arrivals : Option (List ℕ)) (came : Result Status DriveTrouble) (old new : Input) (had has : Option (List ℕ)) →
    IfOk came (StatesStand o old new had has file arrivals) → IfErr came (λ told. IsWhyUnstood o told old new had has file arrivals) → StatedOverBoth o file arrivals came old new had has
stated_over_both o file arrivals (Ok status) old new had has ok err = ok
stated_over_both o file arrivals (Err told) old new had has ok err = err
