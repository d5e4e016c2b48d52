use Rattle.std.proofs.Common.{◌≡◌, ◌∙◌, ap, List}
use Rattle.wh_grid.specs.declared.cell.Cell.{Cell}
use Rattle.wh_path.specs.Paths.{ends, others}
use Rattle.wh_core.specs.Steps.{other_ends}
use Rattle.wh_judge.proofs.Reachable.{begins-there, ways-there}
use Rattle.wh_judge.proofs.Ways.{can-park}
use Rattle.wh_judge.proofs.lacking.can_park.Goals as goal

pub free_points-requires-clause-begins : goal.free_points-requires-clause-begins
free_points-requires-clause-begins c = rw (c.points.ensures.value, c.homes.ensures) (begins-there c.args.instance.now c.args.floor.now.state c.requires.reached)

pub free_points-requires-clause-ways : goal.free_points-requires-clause-ways
free_points-requires-clause-ways c =
    rw (c.points.ensures.value, c.homes.ensures) (λ e. ways-there c.args.instance.now c.args.floor.now.state (c.requires.ways e))

pub returns : goal.returns
returns c =
    let site = c.args.instance.now in
    let s = c.args.floor.now.state in
    let agent = c.args.agent in
    let avoid : c.deref.result.now ≡ other_ends s agent =
    c.deref.ensures.value ∙ c.in_ok-avoid.ensures ∙ ap (λ (ps : List (List Cell)). ends (others ps agent)) c.paths.ensures.value in
    can-park site s agent c.in_ok-allowed.allowed.items c.in_ok-leads.leads
    (rw (c.points.ensures.value, c.homes.ensures) at (c.in_ok-allowed.ensures site.grid))
    (rw (c.grid.ensures.value, avoid, c.path_end.ensures, c.deref-2.ensures.value) at c.in_ok-leads.ensures)
