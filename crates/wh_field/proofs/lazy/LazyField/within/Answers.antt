use Rattle.std.proofs.Common.{◌≡◌, ℕ, ◌+◌, ◌*◌, ◌∙◌, ◌<◌, ◌≤◌, ◌⊎◌, List, [], ◌∷◌, Some, IfSome, IfNone, get_or, drop, vec_capacity, subst, sym, ap, arith}
use Rattle.std.proofs.lemmas.List.{get_or_read, with_items_is}
use Rattle.wh_field.specs.Fields.{Seeking}
use Rattle.wh_field.specs.Distances.{IsDistance}
use Rattle.wh_field.specs.Tables.{value, blocked, IsWalled, IsSpreading, IsLevelled, HasRoom, IsListed}
use Rattle.wh_field.specs.Places.{place, IsSurveying}
use Rattle.wh_field.proofs.Walks.{outside_none}
use Rattle.wh_field.proofs.Places.{row_ends}
use Rattle.wh_field.proofs.Starts.{ground_walls}
use Rattle.wh_field.proofs.Early.{surveying_on}
use Rattle.wh_field.proofs.Limits.{within_least, within_distance, within_none, some_more, none_more}
use Rattle.wh_field.proofs.lazy.LazyField.within.Goals as goal

pub fill_within-self-inside-requires-clause-walled : goal.fill_within-self-inside-requires-clause-walled
fill_within-self-inside-requires-clause-walled c =
    let f = c.self.inside in
    let i = c.self.invariant in
    let g = f.grid.value in
    let v = i.width in
    let h = i.height in
    let a = i.narrow in
    let b = i.low in
    let P : ℕ → Type 0 = λ w. IsWalled (w + 1) c.deref_mut.result.now in
    let Q : List ℕ → Type 0 = λ t. IsWalled (g.width + 1) t in
    subst P (sym i.width) (subst Q (sym c.deref_mut.ensures.value) (ground_walls g [] (f.source ∷ []) f.table.items (omega arith) (omega arith) i.surveying.ground))

pub invariant_of-self : goal.invariant_of-self
invariant_of-self c =
    let f = c.self.inside in
    let i = c.self.invariant in
    let g = f.grid.value in
    let fill = c.fill_within-self-inside in
    let t = fill.new.table in
    let q = fill.new.queue.items in
    let d = fill.result.distance in
    let layer = drop fill.result.head q in
    let same = fill.auto.table in
    let len = c.deref_mut.ensures.len in
    let items = with_items_is f.table t (omega arith) in
    let P : ℕ → Type 0 = λ w. IsSpreading (w + 1) d t [] layer in
    let Q : List ℕ → Type 0 = λ x. IsSurveying g [] (f.source ∷ []) f.front.distance x (drop f.front.head f.queue.items) in
    let now : IsSurveying g [] (f.source ∷ []) d t layer =
    surveying_on g [] (f.source ∷ []) f.front.distance d c.deref_mut.result.now (drop f.front.head f.queue.items) t layer (subst Q (sym c.deref_mut.ensures.value) i.surveying) fill.ensures.ground (subst P i.width fill.ensures.spreading) in
    let on_table : List ℕ → Type 0 = λ x. IsSurveying g [] (f.source ∷ []) d x layer in
    let room : List ℕ → Type 0 = λ x. HasRoom (vec_capacity fill.new.queue) x q in
    record {
      width = i.width;
      height = i.height;
      narrow = i.narrow;
      low = i.low;
      surveying = subst on_table (sym items) now;
      head = fill.ensures.head;
      room = subst room (sym items) fill.ensures.room;
      listed = subst (λ x. IsListed x q) (sym items) fill.ensures.listed;
      marked = i.marked;
      positive = i.positive;
      latest = i.latest;
    }

pub returns-in-Some-clause-found : goal.returns-in-Some-clause-found
returns-in-Some-clause-found c =
    let f = c.self.inside in
    let i = c.self.invariant in
    let g = f.grid.value in
    let fill = c.fill_within-self-inside in
    let t = fill.new.table in
    let q = fill.new.queue.items in
    let d = fill.result.distance in
    let layer = drop fill.result.head q in
    let same = fill.auto.table in
    let len = c.deref_mut.ensures.len in
    let items = with_items_is f.table t (omega arith) in
    let P : ℕ → Type 0 = λ w. IsSpreading (w + 1) d t [] layer in
    let Q : List ℕ → Type 0 = λ x. IsSurveying g [] (f.source ∷ []) f.front.distance x (drop f.front.head f.queue.items) in
    let now : IsSurveying g [] (f.source ∷ []) d t layer =
    surveying_on g [] (f.source ∷ []) f.front.distance d c.deref_mut.result.now (drop f.front.head f.queue.items) t layer (subst Q (sym c.deref_mut.ensures.value) i.surveying) fill.ensures.ground (subst P i.width fill.ensures.spreading) in
    let cell = c.args.cell in
    let limit = c.args.limit in
    let n = c.index.result.now in
    let v = i.width in
    let h = i.height in
    let a = i.narrow in
    let b = i.low in
    let e = c.in-Some.ensures.inside in
    let wx = e.0 in
    let wy = e.1 in
    let here : c.in-Some.place ≡ place g cell = e.2 ∙ ap (λ (w : ℕ). (cell.y + 1) * (w + 1) + cell.x) v in
    let ends = row_ends g cell (omega arith) (omega arith) in
    let size = now.ground.size in
    let found : n ≡ get_or t c.in-Some.place n = c.index.ensures ∙ ap (λ xs. get_or xs c.in-Some.place n) items in
    let read : n ≡ value t c.in-Some.place = get_or_read t c.in-Some.place n (omega arith) found 4294967294 in
    let at_cell : n ≡ value t (place g cell) = read ∙ ap (λ k. value t k) here in
    let L : ℕ → Type 0 = λ w. IsLevelled (w + 1) t ⊎ (limit ≤ d) in
    let least = within_least g [] f.source (place g cell) limit d t layer (omega arith) (omega arith) now (λ z. subst L i.width (fill.ensures.met (ap (λ k. value t k) here ∙ z))) in
    let R : Seeking → Type 0 = λ x. IfSome c.up_to.result (λ k. IsDistance x.grid x.cell cell (Some k) × (k ≤ limit)) in
    subst R c.self.view_is (some_more c.up_to.result (λ k. (k ≡ n) × (k < blocked) × (k ≤ limit)) (λ k. IsDistance g f.source cell (Some k) × (k ≤ limit))
    (λ k known. (within_distance g f.source cell limit d t layer k now least (omega arith) known.1 known.2 (sym at_cell ∙ sym known.0), known.2)) c.up_to.ensures.known)

pub returns-in-Some-clause-farther : goal.returns-in-Some-clause-farther
returns-in-Some-clause-farther c =
    let f = c.self.inside in
    let i = c.self.invariant in
    let g = f.grid.value in
    let fill = c.fill_within-self-inside in
    let t = fill.new.table in
    let q = fill.new.queue.items in
    let d = fill.result.distance in
    let layer = drop fill.result.head q in
    let same = fill.auto.table in
    let len = c.deref_mut.ensures.len in
    let items = with_items_is f.table t (omega arith) in
    let P : ℕ → Type 0 = λ w. IsSpreading (w + 1) d t [] layer in
    let Q : List ℕ → Type 0 = λ x. IsSurveying g [] (f.source ∷ []) f.front.distance x (drop f.front.head f.queue.items) in
    let now : IsSurveying g [] (f.source ∷ []) d t layer =
    surveying_on g [] (f.source ∷ []) f.front.distance d c.deref_mut.result.now (drop f.front.head f.queue.items) t layer (subst Q (sym c.deref_mut.ensures.value) i.surveying) fill.ensures.ground (subst P i.width fill.ensures.spreading) in
    let cell = c.args.cell in
    let limit = c.args.limit in
    let n = c.index.result.now in
    let v = i.width in
    let h = i.height in
    let a = i.narrow in
    let b = i.low in
    let e = c.in-Some.ensures.inside in
    let wx = e.0 in
    let wy = e.1 in
    let here : c.in-Some.place ≡ place g cell = e.2 ∙ ap (λ (w : ℕ). (cell.y + 1) * (w + 1) + cell.x) v in
    let ends = row_ends g cell (omega arith) (omega arith) in
    let size = now.ground.size in
    let found : n ≡ get_or t c.in-Some.place n = c.index.ensures ∙ ap (λ xs. get_or xs c.in-Some.place n) items in
    let read : n ≡ value t c.in-Some.place = get_or_read t c.in-Some.place n (omega arith) found 4294967294 in
    let at_cell : n ≡ value t (place g cell) = read ∙ ap (λ k. value t k) here in
    let L : ℕ → Type 0 = λ w. IsLevelled (w + 1) t ⊎ (limit ≤ d) in
    let least = within_least g [] f.source (place g cell) limit d t layer (omega arith) (omega arith) now (λ z. subst L i.width (fill.ensures.met (ap (λ k. value t k) here ∙ z))) in
    let R : Seeking → Type 0 = λ x. IfNone c.up_to.result ((k : ℕ) → IsDistance x.grid x.cell cell (Some k) → limit < k) in
    subst R c.self.view_is (none_more c.up_to.result ((n < blocked) × (n ≤ limit) → ⊥) ((k : ℕ) → IsDistance g f.source cell (Some k) → limit < k)
    (λ unknown. within_none g f.source cell limit t least (λ both. (let low = both.0 in let near = both.1 in unknown (omega arith, omega arith)))) c.up_to.ensures.unknown)

pub returns-in-None-clause-farther : goal.returns-in-None-clause-farther
returns-in-None-clause-farther c =
    let f = c.self.inside in
    let g = f.grid.value in
    let cell = c.args.cell in
    let v = c.self.invariant.width in
    let h = c.self.invariant.height in
    let none = outside_none g f.source cell (λ p. c.in-None.ensures.outside (let a = p.0 in let b = p.1 in (omega arith, omega arith))) in
    let R : Seeking → Type 0 = λ x. (n : ℕ) → IsDistance x.grid x.cell cell (Some n) → c.args.limit < n in
    subst R c.self.view_is (λ n is. absurd (none is.0 is.1.walk))
