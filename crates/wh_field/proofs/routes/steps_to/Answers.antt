use Rattle.std.proofs.Common.{◌≡◌, ℕ, ◌+◌, ◌*◌, ◌∙◌, ap, arith}
use Rattle.wh_field.specs.Places.{place}
use Rattle.wh_field.proofs.NearestRoutes.{steps_inside, steps_outside}
use Rattle.wh_field.proofs.routes.steps_to.Goals as goal

pub returns-in-Some : goal.returns-in-Some
returns-in-Some c =
    let g = c.args.grid.now in
    let to = c.args.to in
    let v = c.width.ensures.value in
    let h = c.height.ensures.value in
    let e = c.in-Some.ensures.inside in
    let wx = e.0 in
    let wy = e.1 in
    let here : c.in-Some.place ≡ place g to = e.2 ∙ ap (λ (w : ℕ). (to.y + 1) * (w + 1) + to.x) v in
    steps_inside g c.args.avoid.now c.args.table.now c.args.from to c.in-Some.place c.requires.surveyed (omega arith) (omega arith) here

pub returns-in-None : goal.returns-in-None
returns-in-None c =
    let v = c.width.ensures.value in
    let h = c.height.ensures.value in
    steps_outside c.args.grid.now c.args.avoid.now c.args.table.now c.args.from c.args.to
    (λ p. c.in-None.ensures.outside (let a = p.0 in let b = p.1 in (omega arith, omega arith)))
