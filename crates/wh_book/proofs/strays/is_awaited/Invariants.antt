use Rattle.std.proofs.Common.{ℕ, ◌<◌}
use Rattle.wh_grid.specs.Grids.{Floor}
use Rattle.wh_stand.specs.Ways.{site_at}
use Rattle.wh_book.specs.Strays.{Awaits}
use Rattle.wh_book.proofs.strays.is_awaited.Given as goal

abbrev pub invariant-loop-agent : goal.invariant-loop-agent
invariant-loop-agent l = (grid : Floor) (other : ℕ) → other < l.agent → ¬ Awaits (site_at grid l.points l.homes) l.floor.state other l.cell
