use Rattle.std.proofs.Common.{◌≡◌, ℕ, ◌+◌, ◌*◌, ◌∙◌, List, [], ◌∷◌, ap, sym, subst, arith}
use Rattle.std.proofs.lemmas.List.{get_or_read}
use Rattle.wh_field.specs.Tables.{value}
use Rattle.wh_field.specs.Places.{IsDescent, place}
use Rattle.wh_field.proofs.Places.{row_ends}
use Rattle.wh_field.proofs.Descents.{start_allowed, descent_route, no_route_outside}
use Rattle.wh_field.proofs.NearestRoutes.{least_back}
use Rattle.wh_field.proofs.routes.route.Goals as goal

pub walk_down-requires-clause-allowed : goal.walk_down-requires-clause-allowed
walk_down-requires-clause-allowed c =
    let g = c.args.grid.now in
    let avoid = c.args.avoid.now in
    let from = c.args.from in
    let t = c.in_ok-table-in-Some.table.items in
    let n = c.index-steps.result.now in
    let s = c.in_ok-table-in-Some.ensures.falling in
    let size = s.ground.size in
    let v = c.width.ensures.value in
    let h = c.height.ensures.value in
    let e = c.in-Some.ensures.inside in
    let wx = e.0 in
    let wy = e.1 in
    let here : c.in-Some.place ≡ place g from = e.2 ∙ ap (λ (w : ℕ). (from.y + 1) * (w + 1) + from.x) v in
    let ends = row_ends g from (omega arith) (omega arith) in
    let read : n ≡ value t c.in-Some.place = get_or_read t c.in-Some.place n (omega arith) c.index-steps.ensures 4294967294 in
    let at_from : n ≡ value t (place g from) = read ∙ ap (λ i. value t i) here in
    let low = c.if-steps-lt-BLOCKED.true in
    start_allowed g avoid (c.args.to ∷ []) t from s (omega arith) (omega arith)

pub returns-then-steps-lt-BLOCKED-clause-found : goal.returns-then-steps-lt-BLOCKED-clause-found
returns-then-steps-lt-BLOCKED-clause-found c =
    let g = c.args.grid.now in
    let avoid = c.args.avoid.now in
    let from = c.args.from in
    let t = c.in_ok-table-in-Some.table.items in
    let n = c.index-steps.result.now in
    let s = c.in_ok-table-in-Some.ensures.falling in
    let size = s.ground.size in
    let v = c.width.ensures.value in
    let h = c.height.ensures.value in
    let e = c.in-Some.ensures.inside in
    let wx = e.0 in
    let wy = e.1 in
    let here : c.in-Some.place ≡ place g from = e.2 ∙ ap (λ (w : ℕ). (from.y + 1) * (w + 1) + from.x) v in
    let ends = row_ends g from (omega arith) (omega arith) in
    let read : n ≡ value t c.in-Some.place = get_or_read t c.in-Some.place n (omega arith) c.index-steps.ensures 4294967294 in
    let at_from : n ≡ value t (place g from) = read ∙ ap (λ i. value t i) here in
    let P : List ℕ → Type 0 = λ u. IsDescent g avoid u from c.args.to n 0 c.in_ok-path-in-Some.path in
    let least = c.in_ok-table-in-Some.ensures.least in
    descent_route g avoid t from c.args.to n c.in_ok-path-in-Some.path
    (λ q r. let l = (least_back g avoid t from c.args.to c.in-Some.place q least (sym here) r).0 in omega arith) (subst P c.deref.ensures.value c.in_ok-path-in-Some.ensures)

pub returns-in-Some-clause-none : goal.returns-in-Some-clause-none
returns-in-Some-clause-none c =
    let g = c.args.grid.now in
    let avoid = c.args.avoid.now in
    let from = c.args.from in
    let t = c.in_ok-table-in-Some.table.items in
    let n = c.index-steps.result.now in
    let s = c.in_ok-table-in-Some.ensures.falling in
    let size = s.ground.size in
    let v = c.width.ensures.value in
    let h = c.height.ensures.value in
    let e = c.in-Some.ensures.inside in
    let wx = e.0 in
    let wy = e.1 in
    let here : c.in-Some.place ≡ place g from = e.2 ∙ ap (λ (w : ℕ). (from.y + 1) * (w + 1) + from.x) v in
    let ends = row_ends g from (omega arith) (omega arith) in
    let read : n ≡ value t c.in-Some.place = get_or_read t c.in-Some.place n (omega arith) c.index-steps.ensures 4294967294 in
    let at_from : n ≡ value t (place g from) = read ∙ ap (λ i. value t i) here in
    let high = c.if-steps-lt-BLOCKED.false in
    let least = c.in_ok-table-in-Some.ensures.least in
    λ q r. let l = (least_back g avoid t from c.args.to c.in-Some.place q least (sym here) r).1 in omega arith

pub returns-clause-none : goal.returns-clause-none
returns-clause-none c =
    let g = c.args.grid.now in
    let v = c.width.ensures.value in
    let h = c.height.ensures.value in
    no_route_outside g c.args.avoid.now c.args.from c.args.to (λ p. c.in-None.ensures.outside (let a = p.0 in let b = p.1 in (omega arith, omega arith)))
