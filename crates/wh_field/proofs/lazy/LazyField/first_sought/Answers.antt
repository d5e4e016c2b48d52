use Rattle.std.proofs.Common.{◌≡◌, ℕ, ◌+◌, List, [], ◌∷◌, drop, vec_capacity, subst, sym, arith}
use Rattle.std.proofs.lemmas.List.{with_items_is}
use Rattle.std.specs.Prelude.{Option}
use Rattle.wh_field.specs.Fields.{Seeking}
use Rattle.wh_field.specs.Distances.{IsDistanceToFirst}
use Rattle.wh_field.specs.Lazy.{is_sought}
use Rattle.wh_field.specs.Tables.{blocked, IsSpreading, IsLevelled, IsLeastMet, HasRoom, IsListed}
use Rattle.wh_field.specs.Places.{IsSurveying}
use Rattle.wh_field.proofs.Early.{surveying_on}
use Rattle.wh_field.proofs.Sought.{marked_field, sought_first, sought_none}
use Rattle.wh_field.proofs.lazy.LazyField.first_sought.Goals as goal
use Rattle.wh_field.proofs.lazy.LazyField.first_sought.Goals.{then-reached-lt-BLOCKED, else-reached-lt-BLOCKED}

pub invariant_of-self : goal.invariant_of-self
invariant_of-self c =
    let f = c.self.inside in
    let i = c.self.invariant in
    let g = f.grid.value in
    let fill = c.fill_to_mark-reached in
    let t = fill.new.table in
    let q = fill.new.queue.items in
    let d = fill.result.front.distance in
    let layer = drop fill.result.front.head q in
    let same = fill.auto.table in
    let len = c.deref_mut.ensures.len in
    let items = with_items_is f.table t (omega arith) in
    let P : ℕ → Type 0 = λ w. IsSpreading (w + 1) d t [] layer in
    let Q : List ℕ → Type 0 = λ x. IsSurveying g [] (f.source ∷ []) f.front.distance x (drop f.front.head f.queue.items) in
    let now : IsSurveying g [] (f.source ∷ []) d t layer =
    surveying_on g [] (f.source ∷ []) f.front.distance d c.deref_mut.result.now (drop f.front.head f.queue.items) t layer (subst Q (sym c.deref_mut.ensures.value) i.surveying) fill.ensures.ground (subst P i.width fill.ensures.spreading) in
    let on_table : List ℕ → Type 0 = λ x. IsSurveying g [] (f.source ∷ []) d x layer in
    let room : List ℕ → Type 0 = λ x. HasRoom (vec_capacity fill.new.queue) x q in
    record {
      width = i.width;
      height = i.height;
      narrow = i.narrow;
      low = i.low;
      surveying = subst on_table (sym items) now;
      head = fill.ensures.head;
      room = subst room (sym items) fill.ensures.room;
      listed = subst (λ x. IsListed x q) (sym items) fill.ensures.listed;
      marked = i.marked;
      positive = i.positive;
      latest = i.latest;
    }

pub returns-clause-exact : goal.returns-clause-exact
returns-clause-exact c =
    let f = c.self.inside in
    let i = c.self.invariant in
    let g = f.grid.value in
    let fill = c.fill_to_mark-reached in
    let t = fill.new.table in
    let q = fill.new.queue.items in
    let n = fill.result.least in
    let d = fill.result.front.distance in
    let layer = drop fill.result.front.head q in
    let v = i.width in
    let h = i.height in
    let a = i.narrow in
    let b = i.low in
    let P : ℕ → Type 0 = λ w. IsSpreading (w + 1) d t [] layer in
    let Q : List ℕ → Type 0 = λ x. IsSurveying g [] (f.source ∷ []) f.front.distance x (drop f.front.head f.queue.items) in
    let now : IsSurveying g [] (f.source ∷ []) d t layer =
    surveying_on g [] (f.source ∷ []) f.front.distance d c.deref_mut.result.now (drop f.front.head f.queue.items) t layer (subst Q (sym c.deref_mut.ensures.value) i.surveying) fill.ensures.ground (subst P i.width fill.ensures.spreading) in
    let met : IsLeastMet f.marks.items f.mark t n = subst (λ ms. IsLeastMet ms f.mark t n) c.deref.ensures.value fill.ensures.least in
    let E : Option ℕ → Type 0 = IsDistanceToFirst g f.source (is_sought (marked_field g f.source f.marks.items f.mark)) in
    let exact : E c.if-reached-lt-BLOCKED.result = elim c.if-reached-lt-BLOCKED.branch [
      | then-reached-lt-BLOCKED w ↦
          let low = w.if-reached-lt-BLOCKED.true in
          subst E (sym w.result-is) (sought_first g f.source f.marks.items f.mark n d t layer (omega arith) (omega arith) i.positive now met low)
      | else-reached-lt-BLOCKED w ↦
          let high = w.if-reached-lt-BLOCKED.false in
          let most = met.most in
          let none : n ≡ blocked = omega arith in
          subst E (sym w.result-is) (sought_none g f.source f.marks.items f.mark n d t layer i.positive now met none (subst (λ k. IsLevelled (k + 1) t) v (fill.ensures.unmet none)))
    ] in
    let R : Seeking → Type 0 = λ x. IsDistanceToFirst x.grid x.cell (is_sought x) c.if-reached-lt-BLOCKED.result in
    subst R c.self.view_is exact
