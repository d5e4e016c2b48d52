use Rattle.std.proofs.Common.{ℕ, ◌∙◌, inl, inr, List, [], drop, vec_capacity, ap, sym, subst, arith}
use Rattle.std.specs.Vec.{with_items}
use Rattle.std.proofs.lemmas.List.{with_items_is}
use Rattle.wh_grid.specs.declared.cell.Cell.{Cell}
use Rattle.wh_grid.specs.Grids.{Floor}
use Rattle.wh_field.specs.Places.{IsSurveying}
use Rattle.wh_field.specs.Tables.{HasRoom, IsListed}
use Rattle.wh_field.proofs.Starts.{ground_walls}
use Rattle.wh_field.proofs.nearest.NearestField.until.Goals as goal

pub invariant_of-result : goal.invariant_of-result
invariant_of-result c =
    let g = c.args.grid.now in
    let sources = c.args.sources.now in
    let mark = c.mark_to-front in
    let t = mark.new.table in
    let q = mark.new.queue.items in
    let d = mark.result.distance in
    let layer = drop mark.result.head q in
    let v = c.width.ensures in
    let h = c.height.ensures in
    let a = v.value in
    let b = v.bound in
    let e = h.value in
    let k = h.bound in
    let same = mark.auto.table in
    let len = c.deref_mut.ensures.len in
    let items = with_items_is c.in_ok-table.table t (omega arith) in
    let s = mark.ensures.surveying in
    let few = (ground_walls g [] sources t (omega arith) (omega arith) s.ground).few in
    let below = s.spreading.room in
    let on_grid : Floor → Type 0 = λ x. IsSurveying x [] sources d t layer in
    let on_table : List ℕ → Type 0 = λ x. IsSurveying c.of.result.value [] sources d x layer in
    let on_sources : List Cell → Type 0 = λ x. IsSurveying c.of.result.value [] x d (with_items c.in_ok-table.table t).items layer in
    let room : List ℕ → Type 0 = λ x. HasRoom (vec_capacity mark.new.queue) x q in
    record {
      width = v.value ∙ ap (λ (x : Floor). x.width) (sym c.of.ensures);
      height = h.value ∙ ap (λ (x : Floor). x.height) (sym c.of.ensures);
      narrow = v.bound;
      low = h.bound;
      surveying = subst on_sources (sym c.in_ok-from_slice.ensures.items) (subst on_table (sym items) (subst on_grid (sym c.of.ensures) s));
      head = mark.ensures.head;
      room = subst room (sym items) mark.ensures.room;
      listed = subst (λ x. IsListed x q) (sym items) mark.ensures.listed;
      most = elim c.level_of-level.ensures [ inl some ↦ (let z = some.0 in omega arith) | inr all ↦ (let z = all.0 in omega arith) ];
      known = elim c.level_of-level.ensures [ inl some ↦ inl (let z = some.0 in omega arith) | inr all ↦ inr (all.0, (let z = all.1 in omega arith)) ];
    }

pub returns-clause-reached : goal.returns-clause-reached
returns-clause-reached c = λ n near.
    let mark = c.mark_to-front in
    let s = mark.ensures.surveying in
    let v = c.width.ensures in
    let h = c.height.ensures in
    let a = v.value in
    let b = v.bound in
    let e = h.value in
    let k = h.bound in
    let few = (ground_walls c.args.grid.now [] c.args.sources.now mark.new.table (omega arith) (omega arith) s.ground).few in
    let below = s.spreading.room in
    let far = mark.ensures.reached n near in
    elim c.level_of-level.ensures [ inl some ↦ (let z = some.0 in omega arith) | inr all ↦ (let z = all.0 in omega arith) ]
