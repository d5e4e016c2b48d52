use Rattle.std.proofs.Common.{subst}
use Rattle.std.specs.Prelude.{IfNone, IfSome}
use Rattle.wh_grid.specs.Grids.{Floor}
use Rattle.wh_core.specs.Laws.{IsBeginning, AllOnTheirWays}
use Rattle.wh_stand.specs.Ways.{IsFirstStray, site_at}
use Rattle.wh_book.specs.Drafts.{Seen}
use Rattle.wh_book.proofs.Askers.{if-some, none-of}
use Rattle.wh_book.proofs.Kept.{kept-begins}
use Rattle.wh_book.proofs.book.Book.first_stray.Goals as goal

pub returns-then-not-self-clause-none : goal.returns-then-not-self-clause-none
returns-then-not-self-clause-none c = subst (λ (b : Seen). AllOnTheirWays b.site b.state) c.self.view_is (c.self.invariant.ways c.if-not-self.true)

pub first_stray-requires : goal.first_stray-requires
first_stray-requires c = (c.self.inside.setting.grid, rw (c.points.ensures, c.homes.ensures) (kept-begins _ _ _ _ c.self.invariant.kept))

pub returns-clause-some : goal.returns-clause-some
returns-clause-some c =
    let setting = c.self.inside.setting in
    let state = c.self.inside.floor.state in
    subst (λ (b : Seen). IfSome c.first_stray.result (λ agent. IsFirstStray b.site b.state agent)) c.self.view_is
    (if-some c.first_stray.result (λ agent. (grid : Floor) → IsFirstStray (site_at grid c.points.result.now c.homes.result) state agent)
    (λ agent. IsFirstStray setting state agent) (λ agent first. (rw (c.points.ensures, c.homes.ensures) at first setting.grid)) c.first_stray.ensures.some)

pub returns-clause-none : goal.returns-clause-none
returns-clause-none c =
    let setting = c.self.inside.setting in
    let state = c.self.inside.floor.state in
    subst (λ (b : Seen). IfNone c.first_stray.result (AllOnTheirWays b.site b.state)) c.self.view_is
    (none-of c.first_stray.result ((grid : Floor) → AllOnTheirWays (site_at grid c.points.result.now c.homes.result) state) (AllOnTheirWays setting state)
    (λ all. (rw (c.points.ensures, c.homes.ensures) at all setting.grid)) c.first_stray.ensures.none)
