use Rattle.std.proofs.Common.{◌≡◌, ℕ, ◌+◌, ◌*◌, ◌∙◌, List, [], ◌∷◌, None, get_or, drop, vec_capacity, subst, sym, ap, arith}
use Rattle.std.proofs.lemmas.List.{get_or_read, with_items_is}
use Rattle.wh_grid.specs.declared.cell.Cell.{Cell}
use Rattle.wh_path.specs.Walks.{IsWalkBetween}
use Rattle.wh_field.specs.Fields.{Seeking}
use Rattle.wh_field.specs.Distances.{IsDistance}
use Rattle.wh_field.specs.Tables.{value, IsWalled, IsSpreading, IsLevelled, HasRoom, IsListed}
use Rattle.wh_field.specs.Places.{place, IsSurveying}
use Rattle.wh_field.proofs.Walks.{outside_none}
use Rattle.wh_field.proofs.DistanceLaws.{distance_one}
use Rattle.wh_field.proofs.Places.{row_ends}
use Rattle.wh_field.proofs.Starts.{ground_walls}
use Rattle.wh_field.proofs.Early.{surveying_on, early_least, early_distance, early_none}
use Rattle.wh_field.proofs.lazy.LazyField.dist.Goals as goal
use Rattle.wh_field.proofs.lazy.LazyField.dist.Goals.{then-steps-lt-BLOCKED, else-steps-lt-BLOCKED}

pub fill_until-self-inside-requires-clause-walled : goal.fill_until-self-inside-requires-clause-walled
fill_until-self-inside-requires-clause-walled c =
    let f = c.self.inside in
    let i = c.self.invariant in
    let g = f.grid.value in
    let v = i.width in
    let h = i.height in
    let a = i.narrow in
    let b = i.low in
    let P : ℕ → Type 0 = λ w. IsWalled (w + 1) c.deref_mut.result.now in
    let Q : List ℕ → Type 0 = λ t. IsWalled (g.width + 1) t in
    subst P (sym i.width) (subst Q (sym c.deref_mut.ensures.value) (ground_walls g [] (f.source ∷ []) f.table.items (omega arith) (omega arith) i.surveying.ground))

pub invariant_of-self : goal.invariant_of-self
invariant_of-self c =
    let f = c.self.inside in
    let i = c.self.invariant in
    let g = f.grid.value in
    let fill = c.fill_until-self-inside in
    let t = fill.new.table in
    let q = fill.new.queue.items in
    let d = fill.result.distance in
    let layer = drop fill.result.head q in
    let same = fill.auto.table in
    let len = c.deref_mut.ensures.len in
    let items = with_items_is f.table t (omega arith) in
    let P : ℕ → Type 0 = λ w. IsSpreading (w + 1) d t [] layer in
    let Q : List ℕ → Type 0 = λ x. IsSurveying g [] (f.source ∷ []) f.front.distance x (drop f.front.head f.queue.items) in
    let now : IsSurveying g [] (f.source ∷ []) d t layer =
    surveying_on g [] (f.source ∷ []) f.front.distance d c.deref_mut.result.now (drop f.front.head f.queue.items) t layer (subst Q (sym c.deref_mut.ensures.value) i.surveying) fill.ensures.ground (subst P i.width fill.ensures.spreading) in
    let on_table : List ℕ → Type 0 = λ x. IsSurveying g [] (f.source ∷ []) d x layer in
    let room : List ℕ → Type 0 = λ x. HasRoom (vec_capacity fill.new.queue) x q in
    record {
      width = i.width;
      height = i.height;
      narrow = i.narrow;
      low = i.low;
      surveying = subst on_table (sym items) now;
      head = fill.ensures.head;
      room = subst room (sym items) fill.ensures.room;
      listed = subst (λ x. IsListed x q) (sym items) fill.ensures.listed;
      marked = i.marked;
      positive = i.positive;
      latest = i.latest;
    }

pub returns-after-steps-lt-BLOCKED-clause-exact : goal.returns-after-steps-lt-BLOCKED-clause-exact
returns-after-steps-lt-BLOCKED-clause-exact c =
    let f = c.self.inside in
    let i = c.self.invariant in
    let g = f.grid.value in
    let fill = c.fill_until-self-inside in
    let t = fill.new.table in
    let q = fill.new.queue.items in
    let d = fill.result.distance in
    let layer = drop fill.result.head q in
    let same = fill.auto.table in
    let len = c.deref_mut.ensures.len in
    let items = with_items_is f.table t (omega arith) in
    let P : ℕ → Type 0 = λ w. IsSpreading (w + 1) d t [] layer in
    let Q : List ℕ → Type 0 = λ x. IsSurveying g [] (f.source ∷ []) f.front.distance x (drop f.front.head f.queue.items) in
    let now : IsSurveying g [] (f.source ∷ []) d t layer =
    surveying_on g [] (f.source ∷ []) f.front.distance d c.deref_mut.result.now (drop f.front.head f.queue.items) t layer (subst Q (sym c.deref_mut.ensures.value) i.surveying) fill.ensures.ground (subst P i.width fill.ensures.spreading) in
    let cell = c.args.cell in
    let n = c.index-steps.result.now in
    let v = i.width in
    let h = i.height in
    let a = i.narrow in
    let b = i.low in
    let e = c.in-Some.ensures.inside in
    let wx = e.0 in
    let wy = e.1 in
    let here : c.in-Some.place ≡ place g cell = e.2 ∙ ap (λ (w : ℕ). (cell.y + 1) * (w + 1) + cell.x) v in
    let ends = row_ends g cell (omega arith) (omega arith) in
    let size = now.ground.size in
    let found : n ≡ get_or t c.in-Some.place n = c.index-steps.ensures ∙ ap (λ xs. get_or xs c.in-Some.place n) items in
    let read : n ≡ value t c.in-Some.place = get_or_read t c.in-Some.place n (omega arith) found 4294967294 in
    let at_cell : n ≡ value t (place g cell) = read ∙ ap (λ k. value t k) here in
    let L : ℕ → Type 0 = λ w. IsLevelled (w + 1) t in
    let least = early_least g [] f.source (place g cell) d t layer (omega arith) (omega arith) now (λ z. subst L i.width (fill.ensures.met (ap (λ k. value t k) here ∙ z))) in
    let exact : IsDistance g f.source cell c.if-steps-lt-BLOCKED.result = elim c.if-steps-lt-BLOCKED.branch [
      | then-steps-lt-BLOCKED w ↦ (let low = w.if-steps-lt-BLOCKED.true in
          subst (IsDistance g f.source cell) (sym w.result-is) (early_distance g f.source cell d t layer n now least (omega arith) (omega arith) (sym at_cell)))
      | else-steps-lt-BLOCKED w ↦ (let high = w.if-steps-lt-BLOCKED.false in
          subst (IsDistance g f.source cell) (sym w.result-is) (early_none g f.source cell t least (omega arith)))
    ] in
    let R : Seeking → Type 0 = λ x. IsDistance x.grid x.cell cell c.if-steps-lt-BLOCKED.result in
    subst R c.self.view_is exact

pub returns-after-steps-lt-BLOCKED-clause-value : goal.returns-after-steps-lt-BLOCKED-clause-value
returns-after-steps-lt-BLOCKED-clause-value c =
    distance_one c.args.self.now.grid c.args.self.now.cell c.args.cell c.if-steps-lt-BLOCKED.result (returns-after-steps-lt-BLOCKED-clause-exact c)

pub returns-in-None-clause-exact : goal.returns-in-None-clause-exact
returns-in-None-clause-exact c =
    let f = c.self.inside in
    let g = f.grid.value in
    let cell = c.args.cell in
    let v = c.self.invariant.width in
    let h = c.self.invariant.height in
    let P : Seeking → Type 0 = λ x. (p : List Cell) → IsWalkBetween x.grid x.cell cell p → ⊥ in
    subst P c.self.view_is (outside_none g f.source cell (λ p. c.in-None.ensures.outside (let a = p.0 in let b = p.1 in (omega arith, omega arith))))

pub returns-in-None-clause-value : goal.returns-in-None-clause-value
returns-in-None-clause-value c =
    distance_one c.args.self.now.grid c.args.self.now.cell c.args.cell None (returns-in-None-clause-exact c)

pub fill_until-self-inside-requires-clause-listed : goal.fill_until-self-inside-requires-clause-listed
fill_until-self-inside-requires-clause-listed c =
    let i = c.self.invariant in
    subst (λ x. IsListed x c.self.inside.queue.items) (sym c.deref_mut.ensures.value) i.listed
