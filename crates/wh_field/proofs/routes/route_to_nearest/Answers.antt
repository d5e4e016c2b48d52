use Rattle.std.proofs.Common.{ℕ, List, [], ◌∷◌, length, sym, subst, arith}
use Rattle.wh_path.specs.Paths.{cell_at}
use Rattle.wh_field.specs.Distances.{IsNearestRoute}
use Rattle.wh_field.specs.Places.{IsDescent, IsNearestBefore, IsFalling}
use Rattle.wh_field.proofs.Early.{surveyed_falls}
use Rattle.wh_field.proofs.NearestRoutes.{nearest_route, none_near}
use Rattle.wh_field.proofs.routes.route_to_nearest.Goals as goal

pub returns-then-near-lt-BLOCKED-clause-found : goal.returns-then-near-lt-BLOCKED-clause-found
returns-then-near-lt-BLOCKED-clause-found c =
    let g = c.args.grid.now in
    let avoid = c.args.avoid.now in
    let t = c.in_ok-table.table.items in
    let near = c.nearest_of-near.result in
    let read = c.deref.ensures.value in
    let again = c.deref-then-near-lt-BLOCKED.ensures.value in
    let N : List ℕ → Type 0 = λ u. IsNearestBefore g avoid u c.args.from c.args.targets.now (length c.args.targets.now) near.index near.steps in
    let D : List ℕ → Type 0 = λ u. IsDescent g avoid u (cell_at c.args.targets.now near.index) c.args.from near.steps 0 c.in_ok-path.path in
    subst (λ p. IsNearestRoute g c.args.from c.args.targets.now avoid near.index p) (sym c.reverse.ensures)
    (nearest_route g avoid t c.args.from c.args.targets.now near.index near.steps c.in_ok-path.path c.in_ok-table.ensures (subst N read c.nearest_of-near.ensures)
    c.if-near-lt-BLOCKED.true (subst D again c.in_ok-path.ensures))

pub returns-clause-none : goal.returns-clause-none
returns-clause-none c =
    let near = c.nearest_of-near.result in
    let high = c.if-near-lt-BLOCKED.false in
    none_near c.args.grid.now c.args.avoid.now c.deref.result.now c.args.from c.args.targets.now near.index near.steps c.nearest_of-near.ensures (omega arith)

pub walk_down-requires-clause-surveyed : goal.walk_down-requires-clause-surveyed
walk_down-requires-clause-surveyed c =
    subst (IsFalling c.args.grid.now c.args.avoid.now (c.args.from ∷ [])) (sym c.deref-then-near-lt-BLOCKED.ensures.value)
    (surveyed_falls c.args.grid.now c.args.avoid.now (c.args.from ∷ []) c.in_ok-table.table.items c.in_ok-table.ensures)
