use Rattle.std.proofs.Common.{◌↔◌, subst}
use Rattle.std.specs.Prelude.{Contains, IfOk}
use Rattle.wh_grid.specs.declared.cell.Cell.{Cell}
use Rattle.wh_grid.specs.Grids.{Floor}
use Rattle.wh_core.specs.Steps.{IsAllowed}
use Rattle.wh_stand.specs.Ways.{site_at}
use Rattle.wh_book.specs.Drafts.{Seen}
use Rattle.wh_book.proofs.Askers.{if-ok, way-at}
use Rattle.wh_book.proofs.Kept.{kept-begins}
use Rattle.wh_book.proofs.book.Book.allowed.Goals as goal

pub free_points-requires-clause-begins : goal.free_points-requires-clause-begins
free_points-requires-clause-begins c = (c.self.inside.setting.grid, rw (c.points.ensures, c.homes.ensures) (kept-begins _ _ _ _ c.self.invariant.kept))

pub free_points-requires-clause-ways : goal.free_points-requires-clause-ways
free_points-requires-clause-ways c = λ none grid agent known.
    rw (c.points.ensures, c.homes.ensures) (way-at c.self.inside.setting c.self.inside.floor.state grid agent (c.self.invariant.ways none agent known))

pub returns : goal.returns
returns c =
    let setting = c.self.inside.setting in
    let state = c.self.inside.floor.state in
    let agent = c.args.agent in
    subst (λ (b : Seen). IfOk c.free_points.result (λ cells. (cell : Cell) → Contains cells.items cell ↔ IsAllowed b.site b.state agent cell)) c.self.view_is
    (if-ok c.free_points.result (λ cells. (grid : Floor) (cell : Cell) → Contains cells.items cell ↔ IsAllowed (site_at grid c.points.result.now c.homes.result) state agent cell)
    (λ cells. (cell : Cell) → Contains cells.items cell ↔ IsAllowed setting state agent cell)
    (λ cells each. (rw (c.points.ensures, c.homes.ensures) at each setting.grid)) c.free_points.ensures)
