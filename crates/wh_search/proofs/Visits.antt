-- a tour is reached, state by state, with as many stops behind it as it has visited
use Rattle.std.proofs.Common.{◌≡◌, ℕ, ◌+◌, ◌-◌, ◌<◌, ◌≤◌, inl, inr, ◌∙◌, List, length, min, refl, sym, ap, suc, zero, arith}
use Rattle.std.proofs.lemmas.Bool.{cases_lt}
use Rattle.wh_grid.specs.declared.cell.Cell.{Cell}
use Rattle.wh_grid.specs.Grids.{Floor}
use Rattle.wh_resv.specs.Others.{Others}
use Rattle.wh_path.specs.Paths.{at, end, last_index, VisitsInOrder, cell_at}
use Rattle.wh_path.proofs.AtLemmas.{at-beyond, at-rests}
use Rattle.wh_grid.proofs.Pigeons.{cell_cases}
use Rattle.wh_search.specs.Tours.{IsTour}
use Rattle.wh_search.specs.States.{State, Arrives, Steps, IsEnd, Reaches}
use Rattle.wh_search.proofs.Reach.{tour_go, arrival}

-- each stop that is visited by k is among the first l
abbrev VisitedBy : List Cell → (ℕ → ℕ) → ℕ → ℕ → Type 0
VisitedBy via when k l = (j : ℕ) → j < length via → when j < k → j < l

visited_more : (p via : List Cell) (v : VisitsInOrder p via) (k l m : ℕ) (c : Cell) → Arrives via l c m → at p k ≡ c → VisitedBy via v.when k l → VisitedBy via v.when (k + 1) m
visited_more p via v k l m c a here before j few soon =
    elim (cases_lt j m) [
      | inl b ↦ b
      | inr b ↦ (let order = v.in_order m j b in
          let m_few : m < length via = omega arith in
          elim (cases_lt (v.when m) k) [
            | inl x ↦ absurd (omega (arith, before m m_few x, a.forward))
            | inr x ↦ (let e : v.when m ≡ k = omega arith in absurd (a.stuck m_few (sym (v.there m m_few) ∙ ap (at p) e ∙ here)))
          ])
    ]

record Progress (g : Floor) (others : Others) (via : List Cell) (start : State) (p : List Cell) (when : ℕ → ℕ) (k : ℕ) : Type 0 where
  pub leg : ℕ
  pub few : leg ≤ length via
  pub reached : Reaches (Steps g others via) start k (record { leg = leg; cell = at p k })
  pub visited : VisitedBy via when (k + 1) leg

progress : (g : Floor) (others : Others) (loc : Cell) (via : List Cell) (ends : List Cell) (first : ℕ) (p : List Cell) → Arrives via 0 loc first → IsTour g others loc via ends p → (v : VisitsInOrder p via) → (k : ℕ)
    → Progress g others via (record { leg = first; cell = loc }) p v.when k
progress g others loc via ends first p a d v zero =
    record {
      leg = first;
      few = a.few;
      reached = ap (λ c. record { leg = first; cell = c }) d.starts;
      visited = visited_more p via v 0 0 first loc a d.starts (λ j b s. absurd (omega arith));
    }
progress g others loc via ends first p a d v (suc k) =
    let before = progress g others loc via ends first p a d v k in
    let few = before.few in
    let m = arrival via (at p (suc k)) (λ i. cell_cases (cell_at via i) (at p (suc k))) before.leg (length via - before.leg) (omega arith) in
    let seen : VisitedBy via v.when (suc k) before.leg = λ j b s. before.visited j b (omega arith) in
    record {
      leg = m.0;
      few = m.1.few;
      reached = (record { leg = before.leg; cell = at p k }, before.reached, record { goes = tour_go g others loc via ends p d k; arrives = m.1 });
      visited = visited_more p via v (suc k) before.leg m.0 (at p (suc k)) m.1 refl seen;
    }

-- the same visits, each by the last index
pub visits_by_end : (p via : List Cell) → VisitsInOrder p via → VisitsInOrder p via
visits_by_end p via v =
    record {
      when = λ i. min (v.when i) (last_index p);
      in_order = λ i j b. let h = v.in_order i j b in omega arith;
      there = λ i b. elim (cases_lt (v.when i) (last_index p)) [
        | inl x ↦ ap (at p) (let e : min (v.when i) (last_index p) ≡ v.when i = omega arith in e) ∙ v.there i b
        | inr x ↦ at-rests p (min (v.when i) (last_index p)) (v.when i) (omega arith) (omega arith) ∙ v.there i b
      ];
    }

pub by_end : (p via : List Cell) (v : VisitsInOrder p via) (i : ℕ) → (visits_by_end p via v).when i < last_index p + 1
unfolding visits_by_end
by_end p via v i = omega arith

-- at the last index of each tour the search may be at an end
pub tour_ends : (g : Floor) (others : Others) (loc : Cell) (via : List Cell) (ends : List Cell) (first : ℕ) (p : List Cell) → Arrives via 0 loc first → IsTour g others loc via ends p
    → (t : State) × Reaches (Steps g others via) (record { leg = first; cell = loc }) (last_index p) t × IsEnd others via ends (last_index p) t
tour_ends g others loc via ends first p a d =
    let v = visits_by_end p via d.visits in
    let last = last_index p in
    let h = progress g others loc via ends first p a d v last in
    let few = h.few in
    let all : h.leg ≡ length via = elim (cases_lt h.leg (length via)) [
      | inl b ↦ absurd (omega (arith, h.visited h.leg b (by_end p via d.visits h.leg)))
      | inr b ↦ (let e : h.leg ≡ length via = omega arith in e)
    ] in (
      record { leg = h.leg; cell = end p },
      h.reached,
      record {
        all_visited = all;
        delivered = d.delivers;
        rests = λ i q b. record { away = λ j c e. (d.free i q b).apart j (at-beyond p j c ∙ sym e) };
      },
    )
