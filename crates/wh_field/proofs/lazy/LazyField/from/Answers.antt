use Rattle.std.proofs.Common.{◌≡◌, ℕ, List, [], ◌∷◌, Bool, nat_eq, map, length, get_or, vec_capacity, ap, sym, subst, ◌∙◌, arith}
use Rattle.std.proofs.lemmas.List.{with_items_is, length-replicate}
use Rattle.wh_grid.specs.Grids.{Floor}
use Rattle.wh_field.specs.Fields.{Seeking}
use Rattle.wh_field.specs.Places.{places, IsSurveying}
use Rattle.wh_field.specs.Tables.{HasRoom, IsListed}
use Rattle.wh_field.proofs.Early.{surveying_start}
use Rattle.wh_field.proofs.Forgets.{listed_started}
use Rattle.wh_field.proofs.Sought.{fresh_nowhere, zeros_below}
use Rattle.wh_field.proofs.lazy.LazyField.from.Goals as goal

pub invariant_of-result : goal.invariant_of-result
invariant_of-result c =
    let g = c.args.grid.now in
    let source = c.args.source in
    let t = c.begin.new.table in
    let q = c.begin.new.queue.items in
    let v = c.width.ensures in
    let h = c.height.ensures in
    let a = v.value in
    let b = v.bound in
    let d = h.value in
    let e = h.bound in
    let same = c.begin.auto.table in
    let len = c.deref_mut.ensures.len in
    let items = with_items_is c.in_ok-table.table t (omega arith) in
    let started = c.begin.ensures.started in
    let marks = c.in_ok-marks.ensures in
    let on_grid : Floor → Type 0 = λ x. IsSurveying x [] (source ∷ []) 0 t q in
    let on_table : List ℕ → Type 0 = λ x. IsSurveying c.of.result.value [] (source ∷ []) 0 x q in
    let room : List ℕ → Type 0 = λ x. HasRoom (vec_capacity c.begin.new.queue) x q in
    record {
      width = v.value ∙ ap (λ (x : Floor). x.width) (sym c.of.ensures);
      height = h.value ∙ ap (λ (x : Floor). x.height) (sym c.of.ensures);
      narrow = v.bound;
      low = h.bound;
      surveying = subst on_table (sym items) (subst on_grid (sym c.of.ensures) (surveying_start g [] (source ∷ []) t q (omega arith) (omega arith) c.begin.ensures.started));
      head = omega arith;
      room = subst room (sym items) c.begin.ensures.room;
      listed = subst (λ x. IsListed x q) (sym items) (listed_started g [] (source ∷ []) t q c.begin.ensures.started);
      marked = ap length marks ∙ length-replicate c.len-2.result 0 ∙ (let z : c.len-2.result ≡ length t = omega arith in z) ∙ started.size ∙ ap (λ (x : Floor). places x) (sym c.of.ensures);
      positive = omega arith;
      latest = λ k. (let low = zeros_below c.len-2.result k in let e = ap (λ ms. get_or ms k 0) marks in omega arith);
    }

pub returns : goal.returns
returns c =
    let g = c.args.grid.now in
    let t = c.begin.new.table in
    let same = c.begin.auto.table in
    let len = c.deref_mut.ensures.len in
    let size : c.len-2.result ≡ places g = (let z : c.len-2.result ≡ length t = omega arith in z) ∙ c.begin.ensures.started.size in
    let none = fresh_nowhere g c.in_ok-marks.marks.items c.len-2.result c.in_ok-marks.ensures size in
    ap (λ (x : Floor). let s : Seeking = record { grid = x; cell = c.args.source; sought = map (λ m. nat_eq m 1) c.in_ok-marks.marks.items } in s) c.of.ensures
    ∙ ap (λ (bs : List Bool). let s : Seeking = record { grid = g; cell = c.args.source; sought = bs } in s) none
