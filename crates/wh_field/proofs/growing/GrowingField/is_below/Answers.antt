use Rattle.std.proofs.Common.{◌≡◌, ◌∙◌, [], ◌∷◌, drop, sym, subst, ap, nat_lt, arith}
use Rattle.std.proofs.lemmas.List.{get_or_read}
use Rattle.wh_field.specs.Growing.{Growing}
use Rattle.wh_field.specs.Tables.{value}
use Rattle.wh_field.specs.Places.{place, IsSurveying}
use Rattle.wh_field.proofs.Levels.{growing_least, capped_at, surveying_in, below_capped}
use Rattle.wh_field.proofs.growing.GrowingField.is_below.Goals as goal

pub returns : goal.returns
returns c =
    let f = c.self.inside in
    let i = c.self.invariant in
    let g = c.args.self.now.grid in
    let source = c.args.self.now.cell in
    let t = f.table.items in
    let d = f.front.distance in
    let q = f.queue.items in
    let cell = c.args.cell in
    let level = c.args.level in
    let n = c.index.result.now in
    let v = i.width in
    let h = i.height in
    let a = i.narrow in
    let b = i.low in
    let most = i.most in
    let P : Growing → Type 0 = λ x. IsSurveying x.grid [] (x.cell ∷ []) d t (drop f.front.head q) in
    let s : IsSurveying g [] (source ∷ []) d t (drop f.front.head q) = subst P c.self.view_is i.surveying in
    let size = s.ground.size in
    let read : n ≡ value t c.args.index = get_or_read t c.args.index n (omega (arith, c.requires.within)) c.index.ensures 4294967294 in
    let here : value t (place g cell) ≡ n = sym (read ∙ ap (λ k. value t k) c.requires.here) in
    let W : Growing → Type 0 = λ x. f.width ≡ x.grid.width in
    let H : Growing → Type 0 = λ x. f.height ≡ x.grid.height in
    let L : Growing → Type 0 = λ x. f.level ≡ x.level in
    let wide = subst W c.self.view_is v in
    let high = subst H c.self.view_is h in
    let asked = c.requires.level in
    let top = ap (λ (x : Growing). x.level) c.self.view_is in
    let least = growing_least g source (place g cell) level f.level d f.front.head t q (omega arith) (omega arith) s (omega arith) i.known in
    let than = c.args.than in
    let is = c.from.ensures in
    let capped_is = capped_at g source cell level d t (drop f.front.head q) n s least (λ near. surveying_in g source cell d t (drop f.front.head q) n s c.requires.column here (omega arith)) (omega arith) here in
    ap (λ k. nat_lt k than) is ∙ below_capped n level than c.requires.than ∙ ap (λ k. nat_lt k than) capped_is
