-- no tour comes to a stop before it may be there, nor before the steps to it are gone
use Rattle.std.proofs.Common.{◌≡◌, ℕ, ◌+◌, ◌-◌, ◌<◌, ◌≤◌, inl, inr, ◌∙◌, List, length, sym, ap, subst, suc, zero, arith}
use Rattle.std.proofs.lemmas.Bool.{cases_lt}
use Rattle.wh_grid.specs.declared.cell.Cell.{Cell}
use Rattle.wh_grid.specs.Grids.{Floor, IsPassable}
use Rattle.wh_resv.specs.Others.{Others}
use Rattle.wh_path.specs.Paths.{at, end, last_index, cell_at, IsWalk}
use Rattle.wh_search.specs.declared.errand.Errand.{Errand}
use Rattle.wh_search.specs.Expansions.{MayVisit}
use Rattle.wh_search.specs.Frontiers.{IsErrand}
use Rattle.wh_search.specs.Guides.{guide_estimate}
use Rattle.wh_search.specs.States.{IsEstimate}
use Rattle.wh_search.specs.Tours.{IsTour}
use Rattle.wh_search.specs.Waits.{NoneComesSooner}
use Rattle.wh_search.proofs.Visits.{visits_by_end, by_end}

-- along a walk an estimate falls by at most 1 in a step
walk_falls : (g : Floor) (via ends q : List Cell) (e : ℕ → Cell → ℕ) → IsEstimate g via ends e → IsWalk g q → (l : ℕ) → l ≤ length via → (d k : ℕ) → e l (at q k) ≤ e l (at q (k + d)) + d
walk_falls g via ends q e h w l few zero k =
    let z : e l (at q k) ≡ e l (at q (k + 0)) = ap (λ i. e l (at q i)) (let y : k ≡ k + 0 = omega arith in y) in
    omega arith
walk_falls g via ends q e h w l few (suc d) k =
    let one = h.falls l (at q k) (at q (k + 1)) few (w.passable k) (w.passable (k + 1)) (w.moves k) in
    let more = walk_falls g via ends q e h w l few d (k + 1) in
    let z : e l (at q (k + 1 + d)) ≡ e l (at q (k + suc d)) = ap (λ i. e l (at q i)) (let y : k + 1 + d ≡ k + suc d = omega arith in y) in
    omega arith

-- a tour may be where it is
tour_visits : (g : Floor) (others : Others) (loc : Cell) (via ends q : List Cell) → IsTour g others loc via ends q → (k : ℕ) → MayVisit others (at q k) k
tour_visits g others loc via ends q t k =
    record {
      vacant = λ i p b e. (t.free i p b).apart k (sym e);
      follows_none = λ rule i p b e. elim (cases_lt 0 k) [
        | inl late ↦ (t.free i p b).no_follow rule (k - 1) (inl (ap (at q) (let y : k - 1 + 1 ≡ k = omega arith in y) ∙ sym e))
        | inr first ↦ (t.free i p b).apart (k - 1) (ap (at q) (let y : k - 1 ≡ k = omega arith in y) ∙ sym e)
      ];
    }

pub none_at_first : (e : Errand) → NoneComesSooner e e.first e.loc 0
none_at_first e = λ q t.
    record {
      visits = visits_by_end q e.via.now t.visits;
      time = 0;
      late = omega arith;
      here = t.starts;
      before = λ i a b. omega arith;
      in_time = λ i. omega (arith, by_end q e.via.now t.visits i);
      by_end = omega arith;
    }

pub none_at_next : (e : Errand) (l : ℕ) (c : Cell) (k n : ℕ) → IsErrand e → l < length e.via.now → NoneComesSooner e l c k
    → ((j : ℕ) → k + (guide_estimate e.guide l c - guide_estimate e.guide (l + 1) (cell_at e.via.now l)) ≤ j → MayVisit e.others.now (cell_at e.via.now l) j → n ≤ j)
    → NoneComesSooner e (l + 1) (cell_at e.via.now l) n
none_at_next e l c k n h few none soon = λ q t.
    let g = e.grid.now in
    let via = e.via.now in
    let E = guide_estimate e.guide in
    let stop = cell_at via l in
    let v = none q t in
    let when = v.visits.when l in
    let there : at q when ≡ stop = v.visits.there l few in
    let late = v.late in
    let on = v.before l (omega arith) few in
    let d = when - v.time in
    let falls = walk_falls g via e.ends.now q E h.guided t.walk l (omega arith) d v.time in
    let here : E l (at q v.time) ≡ E l c = ap (E l) v.here in
    let goes : E l (at q (v.time + d)) ≡ E l stop = ap (λ i. E l (at q i)) (let y : v.time + d ≡ when = omega arith in y) ∙ ap (E l) there in
    let behind = h.guided.visits l few (subst (λ (x : Cell). IsPassable g x) there (t.walk.passable when)) in
    record {
      visits = v.visits;
      time = when;
      late = soon when (omega arith) (subst (λ (x : Cell). MayVisit e.others.now x when) there (tour_visits g e.others.now e.loc via e.ends.now q t when));
      here = there;
      before = λ i a b. v.visits.in_order l i (omega arith);
      in_time = v.in_time;
      by_end = v.in_time l;
    }

pub none_ends : (e : Errand) (c : Cell) (k : ℕ) (q : List Cell) → IsErrand e → NoneComesSooner e (length e.via.now) c k → IsTour e.grid.now e.others.now e.loc e.via.now e.ends.now q
    → k + guide_estimate e.guide (length e.via.now) c ≤ last_index q
none_ends e c k q h none t =
    let g = e.grid.now in
    let via = e.via.now in
    let m = length via in
    let E = guide_estimate e.guide in
    let v = none q t in
    let late = v.late in
    let soon = v.by_end in
    let d = last_index q - v.time in
    let falls = walk_falls g via e.ends.now q E h.guided t.walk m (omega arith) d v.time in
    let here : E m (at q v.time) ≡ E m c = ap (E m) v.here in
    let goes : E m (at q (v.time + d)) ≡ E m (end q) = ap (λ i. E m (at q i)) (let y : v.time + d ≡ last_index q = omega arith in y) in
    let done = h.guided.at_end (end q) t.delivers (t.walk.passable (last_index q)) in
    omega arith
