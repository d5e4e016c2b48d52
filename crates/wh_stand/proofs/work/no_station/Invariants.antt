use Rattle.std.proofs.Common.{ℕ, ◌<◌}
use Rattle.wh_path.specs.Paths.{cell_at}
use Rattle.wh_core.specs.Laws.{IsStationCell}
use Rattle.wh_stand.proofs.work.no_station.Given as goal

abbrev pub invariant-loop-i : goal.invariant-loop-i
invariant-loop-i l = (j : ℕ) → j < l.i → IsStationCell l.stations (cell_at l.task.stops j)
