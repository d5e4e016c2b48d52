use Rattle.std.proofs.Common.{◌≡◌, ℕ, ◌+◌, ◌*◌, ◌∙◌, [], drop, ap, subst, arith}
use Rattle.wh_field.specs.Tables.{value, IsSpreading, IsLevelled}
use Rattle.wh_field.specs.Places.{place, IsSurveying}
use Rattle.wh_field.proofs.Walks.{outside_none}
use Rattle.wh_field.proofs.Early.{surveying_start, surveying_on}
use Rattle.wh_field.proofs.Forgets.{listed_started}
use Rattle.wh_field.proofs.Nearby.{level_reaches}
use Rattle.wh_field.proofs.nearest.mark_to.Goals as goal

pub returns-in-Some-clause-surveying : goal.returns-in-Some-clause-surveying
returns-in-Some-clause-surveying c =
    let g = c.args.grid.now in
    let sources = c.args.sources.now in
    let q = c.begin.new.queue.items in
    let v = c.width-width.ensures in
    let h = c.height-height.ensures in
    let a = v.value in
    let b = v.bound in
    let d = h.value in
    let e = h.bound in
    let now = c.fill_until.new.table in
    let front = c.fill_until.result in
    let layer = drop front.head c.fill_until.new.queue.items in
    let P : ℕ → Type 0 = λ w. IsSpreading (w + 1) front.distance now [] layer in
    let start = surveying_start g [] sources c.begin.new.table q (omega arith) (omega arith) c.begin.ensures.started in
    surveying_on g [] sources 0 front.distance c.begin.new.table q now layer start c.fill_until.ensures.ground (subst P v.value c.fill_until.ensures.spreading)

pub returns-in-Some-clause-reached : goal.returns-in-Some-clause-reached
returns-in-Some-clause-reached c = λ n near.
    let g = c.args.grid.now in
    let cell = c.args.cell in
    let sources = c.args.sources.now in
    let v = c.width-width.ensures in
    let h = c.height-height.ensures in
    let a = v.value in
    let b = v.bound in
    let d = h.value in
    let e = h.bound in
    let q = c.begin.new.queue.items in
    let now = c.fill_until.new.table in
    let front = c.fill_until.result in
    let layer = drop front.head c.fill_until.new.queue.items in
    let P : ℕ → Type 0 = λ w. IsSpreading (w + 1) front.distance now [] layer in
    let L : ℕ → Type 0 = λ w. IsLevelled (w + 1) now in
    let start = surveying_start g [] sources c.begin.new.table q (omega arith) (omega arith) c.begin.ensures.started in
    let s : IsSurveying g [] sources front.distance now layer =
    surveying_on g [] sources 0 front.distance c.begin.new.table q now layer start c.fill_until.ensures.ground (subst P v.value c.fill_until.ensures.spreading) in
    let inside = c.in-Some.ensures.inside in
    let wx = inside.0 in
    let here : c.in-Some.place ≡ place g cell = inside.2 ∙ ap (λ (w : ℕ). (cell.y + 1) * (w + 1) + cell.x) v.value in
    level_reaches g sources cell front.distance n now layer (omega arith) (omega arith) s
    (λ z. subst L v.value (c.fill_until.ensures.met (ap (λ k. value now k) here ∙ z))) (omega arith) near

pub returns-in-None-clause-surveying : goal.returns-in-None-clause-surveying
returns-in-None-clause-surveying c =
    let v = c.width-width.ensures in
    let h = c.height-height.ensures in
    let a = v.value in
    let b = v.bound in
    let d = h.value in
    let e = h.bound in
    surveying_start c.args.grid.now [] c.args.sources.now c.begin.new.table c.begin.new.queue.items (omega arith) (omega arith) c.begin.ensures.started

pub returns-in-None-clause-reached : goal.returns-in-None-clause-reached
returns-in-None-clause-reached c = λ n near.
    let g = c.args.grid.now in
    let v = c.width-width.ensures.value in
    let h = c.height-height.ensures.value in
    absurd (outside_none g near.0.0 c.args.cell (λ p. c.in-None.ensures.outside (let a = p.0 in let b = p.1 in (omega arith, omega arith))) near.0.2.0 near.0.2.1.walk)

pub returns-in-None-clause-listed : goal.returns-in-None-clause-listed
returns-in-None-clause-listed c = listed_started c.args.grid.now [] c.args.sources.now c.begin.new.table c.begin.new.queue.items c.begin.ensures.started
