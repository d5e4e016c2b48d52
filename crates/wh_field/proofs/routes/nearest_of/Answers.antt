use Rattle.std.proofs.Common.{◌≡◌, ℕ, ◌+◌, length, sym, subst, arith}
use Rattle.wh_field.specs.Places.{IsNearestBefore}
use Rattle.wh_field.specs.declared.routes.Near.{Near}
use Rattle.wh_field.proofs.NearestRoutes.{near_closer, near_kept}
use Rattle.wh_field.proofs.routes.nearest_of.Goals as goal
use Rattle.wh_field.proofs.routes.nearest_of.Goals.{then-steps-near, else-steps-near}

pub loop-k-preserved : goal.loop-k-preserved
loop-k-preserved c =
    let g = c.args.grid.now in
    let avoid = c.args.avoid.now in
    let t = c.args.table.now in
    let from = c.args.from in
    let targets = c.args.targets.now in
    let l = c.loop-k in
    let n = c.steps_to-steps.result in
    let P : Near → Type 0 = λ near. IsNearestBefore g avoid t from targets (l.k + 1) near.index near.steps in
    elim c.if-steps-near.branch [
      | then-steps-near w ↦ subst P (sym w.near-is) (near_closer g avoid t from targets l.k l.near.index l.near.steps n l.invariant c.steps_to-steps.ensures w.if-steps-near.true)
      | else-steps-near w ↦ subst P (sym w.near-is) (near_kept g avoid t from targets l.k l.near.index l.near.steps n l.invariant c.steps_to-steps.ensures (let h = w.if-steps-near.false in omega arith))
    ]

pub returns : goal.returns
returns c =
    let P : ℕ → Type 0 = λ k. IsNearestBefore c.args.grid.now c.args.avoid.now c.args.table.now c.args.from c.args.targets.now k c.loop-k.near.index c.loop-k.near.steps in
    subst P (let e : c.loop-k.k ≡ length c.args.targets.now = omega arith in e) c.loop-k.invariant
