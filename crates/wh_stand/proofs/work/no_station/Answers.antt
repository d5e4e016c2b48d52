use Rattle.std.proofs.Common.{ℕ, List, subst, below_more}
use Rattle.wh_grid.specs.declared.cell.Cell.{Cell}
use Rattle.wh_path.specs.Paths.{cell_at}
use Rattle.wh_core.specs.Laws.{IsStationCell}
use Rattle.wh_stand.proofs.work.no_station.Goals as goal

pub loop-i-preserved : goal.loop-i-preserved
loop-i-preserved c =
    let layout = c.args.stations.now in
    below_more (λ (j : ℕ). IsStationCell layout (cell_at c.args.task.now.stops j)) c.loop-i.i c.loop-i.invariant
    (subst (λ (stops : List Cell). IsStationCell layout (cell_at stops c.loop-i.i)) c.as_slice-stops.ensures.value (c.has.ensures.0 c.if-not-has.false))
