use Rattle.wh_grid.specs.Grids.{Floor}
use Rattle.wh_core.specs.Steps.{IsAllowed}
use Rattle.wh_stand.specs.Ways.{site_at}
use Rattle.wh_book.proofs.Straying.{IsListed}
use Rattle.wh_book.proofs.strays.free_points.Given as goal

abbrev pub invariant-loop-point : goal.invariant-loop-point
invariant-loop-point l =
    (grid : Floor) → IsListed l.points.points (IsAllowed (site_at grid l.points l.homes) l.floor.state l.agent) l.point-index l.cells.items
