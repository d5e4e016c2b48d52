use Rattle.std.proofs.Common.{◌∙◌, ◌++◌, ◌∷◌, [], List, map, take, ap, sym}
use Rattle.std.proofs.lemmas.List.{take_more, map-append}
use Rattle.wh_grid.specs.declared.cell.Cell.{Cell}
use Rattle.wh_path.proofs.AtLemmas.{origin}
use Rattle.wh_drive.specs.declared.vehicle.Vehicle.{Vehicle}
use Rattle.wh_drive.proofs.execution.all_standing.Goals as goal

pub loop-start-preserved : goal.loop-start-preserved
loop-start-preserved c =
    let i = c.loop-start.start-index in
    let starts = c.args.starts.now in
    let idle : Cell → Vehicle = λ _. record { reached = 0; told = 0 } in
    let more = take_more starts i origin c.loop-start-test.true in
    c.in_ok-push.ensures.items ∙ ap (λ (l : List Vehicle). l ++ record { reached = 0; told = 0 } ∷ []) c.loop-start.invariant
    ∙ sym (ap (map idle) more ∙ map-append idle (take i starts) (_ ∷ []))
