use Rattle.std.proofs.Common.{◌≡◌, ◌∙◌, List, sym, ap, subst}
use Rattle.wh_grid.specs.declared.cell.Cell.{Cell}
use Rattle.wh_core.specs.States.{opened}
use Rattle.wh_core.specs.Laws.{AllOnTheirWays}
use Rattle.wh_book.specs.Standings.{standing_at}
use Rattle.wh_judge.specs.Judged.{IsReachable}
use Rattle.wh_judge.proofs.Reachable.{home-opening, reached-opening}
use Rattle.wh_judge.proofs.judge.opening.Goals as goal

pub returns-clause-reached : goal.returns-clause-reached
returns-clause-reached c =
    let site = c.args.instance.now in
    let slots = c.args.slots.items in
    let is : c.in_ok-floor.floor.state ≡ opened site.layout c.args.clock slots =
    c.in_ok-floor.ensures ∙ ap (λ (cells : List Cell). standing_at cells c.args.clock slots) (c.deref.ensures.value ∙ c.in_ok-starts.ensures) in
    subst (λ s. IsReachable site s) (sym is) (reached-opening site c.args.clock slots c.grid.ensures.layout c.requires.clock c.requires.seats)

pub returns-clause-ways : goal.returns-clause-ways
returns-clause-ways c =
    let site = c.args.instance.now in
    let slots = c.args.slots.items in
    let is : c.in_ok-floor.floor.state ≡ opened site.layout c.args.clock slots =
    c.in_ok-floor.ensures ∙ ap (λ (cells : List Cell). standing_at cells c.args.clock slots) (c.deref.ensures.value ∙ c.in_ok-starts.ensures) in
    subst (λ s. AllOnTheirWays site s) (sym is) (home-opening site c.args.clock slots c.grid.ensures.layout c.requires.clock c.requires.seats)
