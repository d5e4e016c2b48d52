use Rattle.std.proofs.Common.{ℕ, ◌+◌, inl, inr, List, [], drop, vec_capacity, subst, sym, arith}
use Rattle.std.proofs.lemmas.List.{with_items_is}
use Rattle.wh_field.specs.Tables.{IsWalled, IsSpreading, HasRoom, IsListed}
use Rattle.wh_field.specs.Places.{IsSurveying}
use Rattle.wh_field.proofs.Starts.{ground_walls}
use Rattle.wh_field.proofs.Early.{surveying_on}
use Rattle.wh_field.proofs.nearest.NearestField.fill.Goals as goal

pub fill_level-self-inside-requires-clause-walled : goal.fill_level-self-inside-requires-clause-walled
fill_level-self-inside-requires-clause-walled c =
    let f = c.self.inside in
    let i = c.self.invariant in
    let g = f.grid.value in
    let v = i.width in
    let h = i.height in
    let a = i.narrow in
    let b = i.low in
    let P : ℕ → Type 0 = λ w. IsWalled (w + 1) c.deref_mut.result.now in
    let Q : List ℕ → Type 0 = λ t. IsWalled (g.width + 1) t in
    subst P (sym i.width) (subst Q (sym c.deref_mut.ensures.value) (ground_walls g [] f.sources.items f.table.items (omega arith) (omega arith) i.surveying.ground))

pub invariant_of-self : goal.invariant_of-self
invariant_of-self c =
    let f = c.self.inside in
    let i = c.self.invariant in
    let g = f.grid.value in
    let fill = c.fill_level-self-inside in
    let t = fill.new.table in
    let q = fill.new.queue.items in
    let d = fill.result.distance in
    let layer = drop fill.result.head q in
    let same = fill.auto.table in
    let len = c.deref_mut.ensures.len in
    let v = i.width in
    let h = i.height in
    let a = i.narrow in
    let b = i.low in
    let items = with_items_is f.table t (omega arith) in
    let P : ℕ → Type 0 = λ w. IsSpreading (w + 1) d t [] layer in
    let Q : List ℕ → Type 0 = λ x. IsSurveying g [] f.sources.items f.front.distance x (drop f.front.head f.queue.items) in
    let now : IsSurveying g [] f.sources.items d t layer =
    surveying_on g [] f.sources.items f.front.distance d c.deref_mut.result.now (drop f.front.head f.queue.items) t layer (subst Q (sym c.deref_mut.ensures.value) i.surveying) fill.ensures.ground (subst P i.width fill.ensures.spreading) in
    let on_table : List ℕ → Type 0 = λ x. IsSurveying g [] f.sources.items d x layer in
    let room : List ℕ → Type 0 = λ x. HasRoom (vec_capacity fill.new.queue) x q in
    let few = (ground_walls g [] f.sources.items t (omega arith) (omega arith) now.ground).few in
    let below = now.spreading.room in
    record {
      width = i.width;
      height = i.height;
      narrow = i.narrow;
      low = i.low;
      surveying = subst on_table (sym items) now;
      head = fill.ensures.head;
      room = subst room (sym items) fill.ensures.room;
      listed = subst (λ x. IsListed x q) (sym items) fill.ensures.listed;
      most = omega arith;
      known = elim fill.ensures.full [ inl far ↦ inl (omega arith) | inr all ↦ inr (omega arith, omega arith) ];
    }
