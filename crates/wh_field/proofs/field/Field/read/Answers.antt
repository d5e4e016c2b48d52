use Rattle.std.proofs.Common.{◌≡◌, ◌∙◌, [], ◌∷◌, Some, None, subst, sym, ap, arith}
use Rattle.std.proofs.lemmas.List.{get_or_read}
use Rattle.wh_field.specs.Fields.{Source}
use Rattle.wh_field.specs.Tables.{value}
use Rattle.wh_field.specs.Places.{place, IsSurveyed}
use Rattle.wh_field.proofs.Walks.{surveyed_least, surveyed_none}
use Rattle.wh_field.proofs.Sides.{surveyed_in}
use Rattle.wh_field.proofs.DistanceLaws.{distance_one}
use Rattle.wh_field.proofs.field.Field.read.Goals as goal

pub returns-then-steps-lt-BLOCKED : goal.returns-then-steps-lt-BLOCKED
returns-then-steps-lt-BLOCKED c =
    let f = c.self.inside in
    let g = c.args.self.now.grid in
    let source = c.args.self.now.cell in
    let t = f.table.items in
    let n = c.index-steps.result.now in
    let P : Source → Type 0 = λ x. IsSurveyed x.grid [] (x.cell ∷ []) t in
    let s : IsSurveyed g [] (source ∷ []) t = subst P c.self.view_is c.self.invariant.2 in
    let size = s.ground.size in
    let read : n ≡ value t c.args.index = get_or_read t c.args.index n (omega (arith, c.requires.within)) c.index-steps.ensures 4294967294 in
    let here : value t (place g c.args.cell) ≡ n = sym (read ∙ ap (λ i. value t i) c.requires.here) in
    let inside = surveyed_in g source c.args.cell t n s c.requires.column here c.if-steps-lt-BLOCKED.true in
    distance_one g source c.args.cell (Some n) (surveyed_least g source c.args.cell t n s inside c.if-steps-lt-BLOCKED.true here)

pub returns-else-steps-lt-BLOCKED : goal.returns-else-steps-lt-BLOCKED
returns-else-steps-lt-BLOCKED c =
    let f = c.self.inside in
    let g = c.args.self.now.grid in
    let source = c.args.self.now.cell in
    let t = f.table.items in
    let n = c.index-steps.result.now in
    let P : Source → Type 0 = λ x. IsSurveyed x.grid [] (x.cell ∷ []) t in
    let s : IsSurveyed g [] (source ∷ []) t = subst P c.self.view_is c.self.invariant.2 in
    let size = s.ground.size in
    let read : n ≡ value t c.args.index = get_or_read t c.args.index n (omega (arith, c.requires.within)) c.index-steps.ensures 4294967294 in
    let here : value t (place g c.args.cell) ≡ n = sym (read ∙ ap (λ i. value t i) c.requires.here) in
    distance_one g source c.args.cell None (surveyed_none g source c.args.cell t s (let late = c.if-steps-lt-BLOCKED.false in omega arith))
