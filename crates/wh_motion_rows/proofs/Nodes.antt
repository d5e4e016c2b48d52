-- nodes that were met stay met as others are added, and what they leave out
use Rattle.std.proofs.Common.{◌≡◌, ℕ, ◌+◌, ◌<◌, ◌≤◌, ◌⊎◌, inl, inr, ◌∙◌, List, [], ◌∷◌, ◌++◌, length, refl, sym, ap, subst, arith}
use Rattle.std.proofs.lemmas.Bool.{cases_lt}
use Rattle.wh_grid.specs.declared.cell.Cell.{Cell}
use Rattle.wh_path.specs.Paths.{last_index}
use Rattle.wh_search.specs.declared.noted.Node.{Node}
use Rattle.wh_search.specs.declared.errand.Errand.{Errand}
use Rattle.wh_search.specs.Frontiers.{Problem, problem, state_of, node_at, HasState, IsErrand}
use Rattle.wh_search.specs.States.{State, Steps}
use Rattle.wh_search.specs.Tours.{IsTour}
use Rattle.wh_search.proofs.BestFirst.{IsDone, IsFrontier, Covers, no_goal_by}
use Rattle.wh_search.proofs.Kept.{old_node, new_node, one_longer}
use Rattle.wh_search.proofs.Searches.{steps_of, ends_of, guess_of, errand_space}
use Rattle.wh_search.proofs.Visits.{tour_ends}
use Rattle.wh_motion_rows.specs.Layers.{IsReached, IsExpanded}

-- what was met stays met
pub has_more : (p : Problem) (nodes : List Node) (n : Node) (k : ℕ) (t : State) → HasState p nodes k t → HasState p (nodes ++ n ∷ []) k t
has_more p nodes n k t h =
    let within = h.within in
    let old = old_node nodes n h.index within in
    record {
      index = h.index;
      within = omega (arith, one_longer nodes n);
      state_is = ap state_of old ∙ h.state_is;
      alike = subst (λ (x : Node). (x.time ≡ k) ⊎ ((p.horizon ≤ x.time) × (x.time ≤ k))) (sym old) h.alike;
    }

pub expanded_more : (p : Problem) (nodes : List Node) (n : Node) (k : ℕ) (s : State) (b : ℕ) → IsExpanded p nodes k s b → IsExpanded p (nodes ++ n ∷ []) k s b
expanded_more p nodes n k s b h = record { onward = λ t step less few. has_more p nodes n (k + 1) t (h.onward t step less few); no_end = h.no_end }

pub reached_more : (p : Problem) (nodes : List Node) (n : Node) (i : ℕ) (x : Node) → i ≤ length nodes → IsReached p nodes i x → IsReached p (nodes ++ n ∷ []) i x
reached_more p nodes n i x b h =
    record {
      in_time = h.in_time;
      few = h.few;
      inside = h.inside;
      comes = elim h.comes [
        | inl s ↦ inl s
        | inr c ↦ (let early = c.earlier in
            let old = old_node nodes n x.parent (omega arith) in
            inr (record {
              earlier = early;
              later = c.later ∙ ap (λ (y : Node). y.time + 1) (sym old);
              steps = subst (λ (y : Node). Steps p.grid p.others p.via y.time (state_of y) (state_of x)) (sym old) c.steps;
            }))
      ];
    }

-- the new node was met
pub has_new : (p : Problem) (nodes : List Node) (n : Node) → HasState p (nodes ++ n ∷ []) n.time (state_of n)
has_new p nodes n =
    let new = new_node nodes n in
    record { index = length nodes; within = omega (arith, one_longer nodes n); state_is = ap state_of new; alike = inl (ap (λ (x : Node). x.time) new) }

-- a node is there for the state at time k
pub record IsThere (nodes : List Node) (k : ℕ) (s : State) : Type 0 where
  pub index : ℕ
  pub within : index < length nodes
  pub time_is : (node_at nodes index).time ≡ k
  pub state_is : state_of (node_at nodes index) ≡ s

pub has_covers : (p : Problem) (nodes : List Node) (k : ℕ) (t : State) → HasState p nodes k t → Covers (IsThere nodes) p.horizon k t
has_covers p nodes k t h = record { time = (node_at nodes h.index).time; alike = h.alike; holds = record { index = h.index; within = h.within; time_is = refl; state_is = h.state_is } }

pub expanded_done : (p : Problem) (nodes : List Node) (k : ℕ) (s : State) (b : ℕ) → IsExpanded p nodes k s b → IsDone (steps_of p) (ends_of p) p.horizon p.limit (guess_of p) (IsThere nodes) k s b
expanded_done p nodes k s b x = record { onward = λ t step less few. has_covers p nodes (k + 1) t (x.onward t step less few); no_goal = x.no_end }

-- where all that waits has a bound of n or more, no tour ends before n
pub none_sooner : (e : Errand) (Met : ℕ → State → Type 0) (Waits : ℕ → Type 0) (n : ℕ) → IsErrand e → IsFrontier (steps_of (problem e)) (ends_of (problem e)) (problem e).start (problem e).horizon (problem e).limit (guess_of (problem e)) Met Waits
    → n ≤ e.limit → ((bound : ℕ) → Waits bound → n ≤ bound) → (q : List Cell) → IsTour e.grid.now e.others.now e.loc e.via.now e.ends.now q → n ≤ last_index q
none_sooner e Met Waits n h noted small late q tour =
    let p = problem e in
    let there = tour_ends e.grid.now e.others.now e.loc e.via.now e.ends.now e.first q h.arrives tour in
    let m = last_index q in
    elim (cases_lt m n) [
      | inr b ↦ b
      | inl b ↦ absurd (no_goal_by (steps_of p) (ends_of p) p.start p.horizon p.limit (guess_of p) Met Waits (errand_space e h) noted m (omega arith) (λ c w. omega (arith, late c w)) there.0 there.1 there.2)
    ]
