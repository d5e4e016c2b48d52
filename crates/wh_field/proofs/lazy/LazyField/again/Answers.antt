use Rattle.std.proofs.Common.{ℕ, List, [], ◌∷◌, drop, vec_capacity, subst, sym, arith}
use Rattle.std.proofs.lemmas.List.{with_items_is}
use Rattle.wh_field.specs.Tables.{HasRoom, IsListed}
use Rattle.wh_field.specs.Places.{IsStarted, IsSurveying}
use Rattle.wh_field.proofs.Starts.{ground_walls}
use Rattle.wh_field.proofs.Early.{surveying_start}
use Rattle.wh_field.proofs.Forgets.{listed_started}
use Rattle.wh_field.proofs.lazy.LazyField.again.Goals as goal

pub invariant_of-self : goal.invariant_of-self
invariant_of-self c =
    let f = c.self.inside in
    let i = c.self.invariant in
    let g = f.grid.value in
    let source = c.args.source in
    let t = c.begin_again.new.table in
    let q = c.begin_again.new.queue.items in
    let layer = drop f.front.head f.queue.items in
    let v = i.width in
    let h = i.height in
    let a = i.narrow in
    let b = i.low in
    let same = c.begin_again.auto.table in
    let len = c.deref_mut.ensures.len in
    let items = with_items_is f.table t (omega arith) in
    let few = (ground_walls g [] (f.source ∷ []) f.table.items (omega arith) (omega arith) i.surveying.ground).few in
    let room_before = i.surveying.spreading.room in
    let Q : List ℕ → Type 0 = λ x. IsSurveying g [] (f.source ∷ []) f.front.distance x layer in
    let started : IsStarted g [] (source ∷ []) t q =
    c.begin_again.ensures.started g (f.source ∷ []) f.front.distance layer (sym i.width) (sym i.height) (omega arith) (subst Q (sym c.deref_mut.ensures.value) i.surveying) in
    let on_table : List ℕ → Type 0 = λ x. IsSurveying g [] (source ∷ []) 0 x q in
    let room : List ℕ → Type 0 = λ x. HasRoom (vec_capacity c.begin_again.new.queue) x q in
    record {
      width = i.width;
      height = i.height;
      narrow = i.narrow;
      low = i.low;
      surveying = subst on_table (sym items) (surveying_start g [] (source ∷ []) t q (omega arith) (omega arith) started);
      head = omega arith;
      room = subst room (sym items) c.begin_again.ensures.room;
      listed = subst (λ x. IsListed x q) (sym items) (listed_started g [] (source ∷ []) t q started);
      marked = i.marked;
      positive = i.positive;
      latest = i.latest;
    }
