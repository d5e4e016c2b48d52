-- What the reports of the threads say of the whole history.
use Rattle.std.proofs.Common.{Bool, ◌≡◌, ℕ, zero, suc, ◌<◌, ◌≤◌, List, [], ◌∷◌, length, map, Some, slice_get, refl, ap, sym, ◌∙◌, subst, arith}
use Rattle.std.specs.List.{All}
use Rattle.std.proofs.lemmas.List.{length-map}
use Rattle.std.proofs.lemmas.List.Elements.{All-head, All-tail}
use Rattle.std.proofs.lemmas.Option.{same_Some, slice_get_within}
use Rattle.wh_grid.specs.Grids.{Floor}
use Rattle.wh_event.specs.declared.entry.Entry.{Entry}
use Rattle.wh_desk.specs.Lists.{AllAt, entries_of, Received}
use Rattle.wh_desk.specs.Calls.{InOrder}
use Rattle.wh_edge.specs.declared.work.Work.{Work}
use mathlib.Core.List.{IsPrefix}
use Rattle.wh_board.proofs.Fronts.{prefix_length, prefix_trans}
use Rattle.wh_desk.specs.Calls.{AllBegin}
use Rattle.wh_crew.specs.declared.worker.Missed.{Missed}
use Rattle.wh_crew.specs.Work.{Worked, IsDue, MissedWithCause, ReportAt, AllWorked}

-- below the length there is an element
get_some : {A : Type 0} (xs : List A) (k : ℕ) → k < length xs → (x : A) × (slice_get xs k ≡ Some x)
get_some [] k less = absurd (omega arith)
get_some (x ∷ xs) zero less = (x, refl)
get_some (x ∷ xs) (suc k) less = get_some xs k (omega arith)

map_at : {A B : Type 0} (f : A → B) (xs : List A) (k : ℕ) (y : B) → slice_get (map f xs) k ≡ Some y → (x : A) × (slice_get xs k ≡ Some x) × (f x ≡ y)
map_at f [] k y at = absurd (cc)
map_at f (x ∷ xs) zero y at = (x, refl, same_Some _ _ at)
map_at f (x ∷ xs) (suc k) y at = map_at f xs k y at

map_get : {A B : Type 0} (f : A → B) (xs : List A) (k : ℕ) (x : A) → slice_get xs k ≡ Some x → slice_get (map f xs) k ≡ Some (f x)
map_get f [] k x at = absurd (cc)
map_get f (y ∷ xs) zero x at = ap (λ z. Some (f z)) (same_Some _ _ at)
map_get f (y ∷ xs) (suc k) x at = map_get f xs k x at

pub all_at : {A : Type 0} (P : A → Type 0) (xs : List A) → All P xs → (k : ℕ) (x : A) → slice_get xs k ≡ Some x → P x
all_at P [] all k x at = absurd (cc)
all_at P (y ∷ xs) all zero x at = subst P (same_Some _ _ at) (All-head P y xs all)
all_at P (y ∷ xs) all (suc k) x at = all_at P xs (All-tail P y xs all) k x at

-- each report keeps the promise at its place, so it answers the work there
pub reported : {X H R : Type 0} (fits : X → Floor → Bool) (slots : X → ℕ) (grid : Floor) (cells : ℕ) (had : H → Received) (asked : H → Work X) (pass : R → Received) (missed : R → Missed) (works : List (Work X)) (passes : List Received) (hs : List H) (rs : List R)
    → length rs ≡ length hs → AllAt (λ i h. IsDue works passes i (had h) (asked h)) hs
    → AllAt (λ i r. (h : H) → slice_get hs i ≡ Some h → Worked fits slots grid cells (asked h).commands.items (asked h).spares.items (had h) (pass r) (missed r)) rs
    → AllAt (λ i r. ReportAt fits slots grid cells works passes i (pass r) (missed r)) rs
reported {X} fits slots grid cells had asked pass missed works passes hs rs count due kept i r at work before work_at pass_at =
    let h = get_some hs i (omega (arith, count, slice_get_within rs i r at)) in
    let is = due i h.0 h.1 in
    subst (λ (w : Work X). Worked fits slots grid cells w.commands.items w.spares.items before (pass r) (missed r)) (same_Some _ _ (sym is.work_is ∙ work_at))
    (subst (λ p. Worked fits slots grid cells (asked h.0).commands.items (asked h.0).spares.items p (pass r) (missed r)) (same_Some _ _ (sym is.had_is ∙ pass_at)) (kept i r at h.0 h.1))

pub ended_order : {X R : Type 0} (fits : X → Floor → Bool) (slots : X → ℕ) (grid : Floor) (cells : ℕ) (pass : R → Received) (missed : R → Missed) (works : List (Work X)) (passes : List Received) (rs : List R) (callers : ℕ)
    → InOrder callers passes → length works ≡ length passes → length rs ≡ length passes
    → AllAt (λ i r. ReportAt fits slots grid cells works passes i (pass r) (missed r)) rs → InOrder callers (map pass rs)
ended_order fits slots grid cells pass missed works passes rs callers order same count reports = record {
  count = length-map rs pass ∙ count ∙ order.count;
  each = λ k p at.
      let r = map_at pass rs k p at in
      let within = slice_get_within rs k r.0 r.1 in
      let before = get_some passes k (omega (arith, count, within)) in
      let work = get_some works k (omega (arith, count, same, within)) in
      ap (λ (q : Received). q.caller) (sym r.2) ∙ (reports k r.0 r.1 work.0 before.0 work.1 before.1).caller_is ∙ order.each k before.0 before.1;
}

pub all_worked : {X R : Type 0} (fits : X → Floor → Bool) (slots : X → ℕ) (grid : Floor) (cells : ℕ) (pass : R → Received) (missed : R → Missed) (works : List (Work X)) (passes : List Received) (rs : List R) (callers : ℕ) (history : List Entry)
    → InOrder callers passes → length works ≡ length passes → length rs ≡ length passes
    → AllAt (λ i r. ReportAt fits slots grid cells works passes i (pass r) (missed r)) rs
    → All (λ p. p.list ≡ entries_of history p.caller) (map pass rs) → AllBegin history (map pass rs)
    → AllWorked fits slots grid cells works passes history (map missed rs)
all_worked fits slots grid cells pass missed works passes rs callers history order same count reports lists begin = record {
  one_each = length-map rs missed ∙ count ∙ sym same;
  each = λ i work had n work_at pass_at missed_at.
      let r = map_at missed rs i n missed_at in
      let w = subst (λ (k : Missed). Worked fits slots grid cells work.commands.items work.spares.items had (pass r.0) k) r.2 (reports i r.0 r.1 work had work_at pass_at) in
      let begins = all_at (λ (p : Received). IsPrefix p.known history) (map pass rs) begin i (pass r.0) (map_get pass rs i r.0 r.1) in
      let mine : had.caller ≡ i = order.each i had pass_at in
      let place : slice_get (map pass rs) i ≡ Some (pass r.0) = map_get pass rs i r.0 r.1 in
      let whole : (pass r.0).list ≡ entries_of history (pass r.0).caller = all_at (λ (p : Received). p.list ≡ entries_of history p.caller) (map pass rs) lists i (pass r.0) place in
      record {
        caller_is = sym mine;
        received = w.received;
        goes_on = ap (entries_of history) (sym mine ∙ sym w.caller_is) ∙ sym whole ∙ w.goes_on;
        in_order = w.in_order;
        all_counted = w.all_counted;
        lent = w.lent;
        known = prefix_trans had.known (pass r.0).known history w.known begins;
        filled = λ some. omega (arith, w.filled some, prefix_length (pass r.0).known history begins);
      };
}

-- why calls were missed
pub with_cause : {X R : Type 0} (fits : X → Floor → Bool) (slots : X → ℕ) (grid : Floor) (cells : ℕ) (pass : R → Received) (missed : R → Missed) (works : List (Work X)) (passes : List Received) (rs : List R) (history : List Entry)
    → length works ≡ length passes → length rs ≡ length passes
    → AllAt (λ i r. ReportAt fits slots grid cells works passes i (pass r) (missed r)) rs
    → AllBegin history (map pass rs) → length history ≤ cells → All (λ n. n.other ≡ 0) (map missed rs)
    → MissedWithCause cells history (map missed rs)
with_cause {X} fits slots grid cells pass missed works passes rs history same count reports begin within none i n at =
    let r = map_at missed rs i n at in
    let there = slice_get_within rs i r.0 r.1 in
    let before = get_some passes i (omega (arith, count, there)) in
    let work = get_some works i (omega (arith, count, same, there)) in
    let w = subst (λ (k : Missed). Worked fits slots grid cells work.0.commands.items work.0.spares.items before.0 (pass r.0) k) r.2 (reports i r.0 r.1 work.0 before.0 work.1 before.1) in
    let begins = all_at (λ (p : Received). IsPrefix p.known history) (map pass rs) begin i (pass r.0) (map_get pass rs i r.0 r.1) in (
      (λ some. omega (arith, w.filled some, prefix_length (pass r.0).known history begins, within)),
      all_at (λ (m : Missed). m.other ≡ 0) (map missed rs) none i n at,
    )
