use Rattle.std.proofs.Common.{◌≡◌, ℕ, ◌+◌, ◌*◌, ◌∙◌, min, subst, sym, ap, arith}
use Rattle.std.proofs.lemmas.List.{get_or_read}
use Rattle.wh_field.specs.Fields.{Sources}
use Rattle.wh_field.specs.Nearest.{nearest_capped}
use Rattle.wh_field.specs.Tables.{value}
use Rattle.wh_field.specs.Places.{place}
use Rattle.wh_field.proofs.Nearby.{filled_to, nearest_at, nearest_outside}
use Rattle.wh_field.proofs.Places.{row_ends}
use Rattle.wh_field.proofs.nearest.NearestField.estimate.Goals as goal

pub returns-in-Some : goal.returns-in-Some
returns-in-Some c =
    let f = c.self.inside in
    let i = c.self.invariant in
    let g = f.grid.value in
    let t = f.table.items in
    let cell = c.args.cell in
    let n = c.index.result.now in
    let v = i.width in
    let h = i.height in
    let most = i.most in
    let e = c.in-Some.ensures.inside in
    let wx = e.0 in
    let wy = e.1 in
    let here : c.in-Some.place ≡ place g cell = e.2 ∙ ap (λ (w : ℕ). (cell.y + 1) * (w + 1) + cell.x) v in
    let ends = row_ends g cell (omega arith) (omega arith) in
    let filled = filled_to g f.sources.items f.level f.front.distance f.front.head t f.queue.items (omega (arith, i.narrow)) (omega (arith, i.low)) i.surveying i.known in
    let size = i.surveying.ground.size in
    let read : n ≡ value t c.in-Some.place = get_or_read t c.in-Some.place n (omega arith) c.index.ensures 4294967294 in
    let at_cell : value t (place g cell) ≡ n = sym (read ∙ ap (λ k. value t k) here) in
    let P : Sources → Type 0 = λ x. min n (f.level + 1) ≡ nearest_capped x.grid x.cells x.level cell in
    c.min.ensures ∙ subst P c.self.view_is (nearest_at g f.sources.items cell f.level n t filled (omega arith) (omega arith) at_cell)

pub returns-in-None : goal.returns-in-None
returns-in-None c =
    let f = c.self.inside in
    let g = f.grid.value in
    let cell = c.args.cell in
    let v = c.self.invariant.width in
    let h = c.self.invariant.height in
    let P : Sources → Type 0 = λ x. f.level + 1 ≡ nearest_capped x.grid x.cells x.level cell in
    subst P c.self.view_is (nearest_outside g f.sources.items cell f.level (λ p. c.in-None.ensures.outside (let a = p.0 in let b = p.1 in (omega arith, omega arith))))
