use Rattle.wh_search.proofs.Stops.{ok_weaker}
use Rattle.wh_detours.specs.Closed.{IsWithoutClosed}
use Rattle.wh_detours.proofs.Closing.{closed_both}
use Rattle.wh_detours.proofs.closed.without_shut.Goals as goal

pub returns : goal.returns
returns c =
    let g = c.args.grid.now in
    let o = c.args.others.now in
    let s = c.in_ok-stayed.stayed in
    ok_weaker c.without_closed.result (λ w. IsWithoutClosed s o c.args.loc w) (λ w. IsWithoutClosed g o c.args.loc w)
    (λ w h. closed_both g s w o c.args.paths.now c.args.loc c.in_ok-stayed.ensures h) c.without_closed.ensures
