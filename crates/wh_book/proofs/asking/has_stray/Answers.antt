use Rattle.std.proofs.Common.{◌∙◌, sym}
use Rattle.wh_grid.specs.Grids.{Floor}
use Rattle.wh_core.specs.Laws.{AllOnTheirWays}
use Rattle.wh_stand.specs.Ways.{site_at}
use Rattle.wh_book.proofs.Askers.{if-none}
use Rattle.wh_book.proofs.asking.has_stray.Goals as goal

pub returns : goal.returns
returns c = λ none.
    let all = if-none c.first_stray.result ((grid : Floor) → AllOnTheirWays (site_at grid c.points.result.now c.homes.result) c.args.floor.now.state)
    (sym c.is_some.ensures ∙ none) c.first_stray.ensures.none in
    rw (c.points.ensures, c.homes.ensures) at all c.args.setting.now.grid
