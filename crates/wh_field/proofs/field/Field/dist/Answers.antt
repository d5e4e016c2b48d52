use Rattle.std.proofs.Common.{◌≡◌, ℕ, ◌+◌, ◌*◌, ◌∙◌, List, Some, None, subst, sym, ap, arith}
use Rattle.std.proofs.lemmas.List.{get_or_read}
use Rattle.wh_grid.specs.declared.cell.Cell.{Cell}
use Rattle.wh_path.specs.Walks.{IsWalkBetween}
use Rattle.wh_field.specs.Fields.{Source}
use Rattle.wh_field.specs.Distances.{IsDistance}
use Rattle.wh_field.specs.Tables.{value}
use Rattle.wh_field.specs.Places.{place}
use Rattle.wh_field.proofs.Walks.{surveyed_least, surveyed_none, outside_none}
use Rattle.wh_field.proofs.DistanceLaws.{distance_one}
use Rattle.wh_field.proofs.Places.{row_ends}
use Rattle.wh_field.proofs.field.Field.dist.Goals as goal

pub returns-then-steps-lt-BLOCKED : goal.returns-then-steps-lt-BLOCKED
returns-then-steps-lt-BLOCKED c =
    let f = c.self.inside in
    let g = f.grid.value in
    let cell = c.args.cell in
    let t = f.table.items in
    let n = c.index-steps.result.now in
    let s = c.self.invariant.2 in
    let size = s.ground.size in
    let v = c.self.invariant.0 in
    let h = c.self.invariant.1 in
    let e = c.in-Some.ensures.inside in
    let wx = e.0 in
    let wy = e.1 in
    let here : c.in-Some.place ≡ place g cell = e.2 ∙ ap (λ (w : ℕ). (cell.y + 1) * (w + 1) + cell.x) v in
    let ends = row_ends g cell (omega arith) (omega arith) in
    let read : n ≡ value t c.in-Some.place = get_or_read t c.in-Some.place n (omega arith) c.index-steps.ensures 4294967294 in
    let P : Source → Type 0 = λ x. IsDistance x.grid x.cell cell (Some n) in
    let exact : IsDistance c.args.self.now.grid c.args.self.now.cell cell (Some n) = subst P c.self.view_is (surveyed_least g f.source cell t n s (omega arith) c.if-steps-lt-BLOCKED.true (sym (read ∙ ap (λ i. value t i) here))) in
    record { value = distance_one c.args.self.now.grid c.args.self.now.cell cell (Some n) exact; exact = exact }

pub returns-else-steps-lt-BLOCKED : goal.returns-else-steps-lt-BLOCKED
returns-else-steps-lt-BLOCKED c =
    let f = c.self.inside in
    let g = f.grid.value in
    let cell = c.args.cell in
    let t = f.table.items in
    let n = c.index-steps.result.now in
    let s = c.self.invariant.2 in
    let size = s.ground.size in
    let v = c.self.invariant.0 in
    let h = c.self.invariant.1 in
    let e = c.in-Some.ensures.inside in
    let wx = e.0 in
    let wy = e.1 in
    let here : c.in-Some.place ≡ place g cell = e.2 ∙ ap (λ (w : ℕ). (cell.y + 1) * (w + 1) + cell.x) v in
    let ends = row_ends g cell (omega arith) (omega arith) in
    let read : n ≡ value t c.in-Some.place = get_or_read t c.in-Some.place n (omega arith) c.index-steps.ensures 4294967294 in
    let at_cell : n ≡ value t (place g cell) = read ∙ ap (λ i. value t i) here in
    let P : Source → Type 0 = λ x. (p : List Cell) → IsWalkBetween x.grid x.cell cell p → ⊥ in
    let exact : IsDistance c.args.self.now.grid c.args.self.now.cell cell None = subst P c.self.view_is (surveyed_none g f.source cell t s (omega arith)) in
    record { value = distance_one c.args.self.now.grid c.args.self.now.cell cell None exact; exact = exact }

pub returns-in-None : goal.returns-in-None
returns-in-None c =
    let f = c.self.inside in
    let g = f.grid.value in
    let cell = c.args.cell in
    let v = c.self.invariant.0 in
    let h = c.self.invariant.1 in
    let P : Source → Type 0 = λ x. (p : List Cell) → IsWalkBetween x.grid x.cell cell p → ⊥ in
    let exact : IsDistance c.args.self.now.grid c.args.self.now.cell cell None = subst P c.self.view_is (outside_none g f.source cell (λ p. c.in-None.ensures.outside (let a = p.0 in let b = p.1 in (omega arith, omega arith)))) in
    record { value = distance_one c.args.self.now.grid c.args.self.now.cell cell None exact; exact = exact }
