-- what the search has found when it ends
use Rattle.std.proofs.Common.{◌≡◌, ◌≢◌, ℕ, ◌+◌, ◌<◌, ◌≤◌, inl, inr, ◌∙◌, List, ◌∷◌, length, refl, sym, ap, subst, None, arith}
use Rattle.std.proofs.lemmas.Bool.{cases_lt}
use Rattle.wh_grid.specs.declared.cell.Cell.{Cell}
use Rattle.wh_path.specs.Paths.{last_index, horizon}
use Rattle.wh_search.specs.States.{State, Steps, IsEnd, Reaches}
use Rattle.wh_search.specs.Tours.{IsTour}
use Rattle.wh_search.proofs.BestFirst.{IsSpace, start_before}
use Rattle.wh_search.proofs.Bound.{end_by_bound}
use Rattle.wh_search.proofs.Paths.{leads_tour, leads_size}
use Rattle.wh_search.proofs.Reach.{is_space}
use Rattle.wh_search.proofs.Visits.{tour_ends}
use Rattle.wh_intervals.specs.Queues.{Waiting, Pops}
use Rattle.wh_intervals.specs.declared.entry.Entry.{Entry}
use Rattle.wh_intervals.specs.declared.node.Node.{Node}
use Rattle.wh_intervals.specs.Arrivals.{Arrival, Covered, IsInterval, AreExpanded, total}
use Rattle.wh_intervals.specs.Late.{IsLateTour}
use Rattle.wh_intervals.specs.Laws.{IsSettled}
use Rattle.wh_intervals.specs.Problems.{Problem, IsProblem}
use Rattle.wh_intervals.specs.Nodes.{state_of, arrival_of, node_at, total_at, bound_at, HasState, IsExpanded, IsKept, IsTrace}
use Rattle.wh_intervals.proofs.Covering.{no_end_by}
use Rattle.wh_intervals.proofs.Waits.{arrives_again}

-- one of the nodes is this arrival
abbrev pub IsNode : List Node → Arrival → Type 0
IsNode nodes a = (i : ℕ) × (i < length nodes) × (arrival_of (node_at nodes i) ≡ a)

has_covered : (nodes : List Node) (k : ℕ) (t : State) → HasState nodes k t → Covered (IsNode nodes) k t
has_covered nodes k t h = record { arrival = arrival_of (node_at nodes h.index); among = (h.index, h.within, refl); stands = h.stands }

-- where none waits that is within the bound by time and estimate, all such are expanded
pub kept_expanded : (p : Problem) (nodes : List Node) (queue : List Entry) (bound : ℕ) → IsKept p nodes queue None → ((i : ℕ) → total_at p (node_at nodes i) ≤ bound → Waiting queue (bound_at p (node_at nodes i)) i → ⊥)
    → AreExpanded p.grid p.others p.via p.ends p.start p.estimate p.limit bound (IsNode nodes)
kept_expanded p nodes queue bound kept late =
    let all = kept.all in
    let done : (i : ℕ) → i < length nodes → total_at p (node_at nodes i) ≤ bound → IsExpanded p nodes (node_at nodes i) = λ i b low. elim (all.cases i b) [
      | inl w ↦ absurd (late i low w)
      | inr d ↦ elim d [ inl y ↦ y | inr z ↦ absurd z ]
    ] in
    record {
      start_there = λ _. has_covered nodes 0 p.start kept.start;
      interval = λ a w. subst (IsInterval p.others p.limit) w.2 (all.reached w.0 w.1).interval;
      onward = λ a w.
          let P : Arrival → Type 0 = λ y. total p.estimate y.time y.state ≤ bound → (k : ℕ) (t : State) → y.time ≤ k → k ≤ y.until → Steps p.grid p.others p.via k y.state t → y.state.cell ≢ t.cell → total p.estimate (k + 1) t ≤ p.limit → Covered (IsNode nodes) (k + 1) t in
          subst P w.2 (λ low k t from to step ne small. has_covered nodes (k + 1) t ((done w.0 w.1 low).onward k t from to step ne small));
      no_end = λ a w.
          let P : Arrival → Type 0 = λ y. total p.estimate y.time y.state ≤ bound → IsEnd p.others p.via p.ends y.time y.state → ⊥ in
          subst P w.2 (λ low end. (done w.0 w.1 low).no_end end);
    }

pub start_settled : (p : Problem) → IsProblem p → IsSettled p.grid p.via p.start
start_settled p h = record { inside = h.inside; arrives = arrives_again p.via 0 p.start.cell p.start.leg h.arrives }

pub problem_space : (p : Problem) → IsProblem p → IsSpace (Steps p.grid p.others p.via) (IsEnd p.others p.via p.ends) p.start (horizon p.others.paths) (λ s. p.estimate s.leg s.cell)
problem_space p h = is_space p.grid p.others p.via p.ends p.estimate p.start h.guided h.inside h.arrives.few

-- no end is reached at a time before all that waits
none_by : (p : Problem) (nodes : List Node) (queue : List Entry) (bound : ℕ) → IsProblem p → IsKept p nodes queue None → bound ≤ p.limit → ((i : ℕ) → total_at p (node_at nodes i) ≤ bound → Waiting queue (bound_at p (node_at nodes i)) i → ⊥)
    → (t : State) → Reaches (Steps p.grid p.others p.via) p.start bound t → IsEnd p.others p.via p.ends bound t → ⊥
none_by p nodes queue bound h kept small late t r end =
    no_end_by p.grid p.others p.via p.ends p.start p.estimate p.limit bound (IsNode nodes) (kept_expanded p nodes queue bound kept late) (start_settled p h) h.guided small bound t (omega arith) r end

-- the bound of what is taken is no later than the last index of any tour, and the slack
pub popped_least : (p : Problem) (nodes : List Node) (queue rest : List Entry) (bound index : ℕ) → IsProblem p → IsKept p nodes queue None → Pops queue rest bound index
    → (q : List Cell) → IsTour p.grid p.others p.start.cell p.via p.ends q → bound ≤ last_index q + p.slack
popped_least p nodes queue rest bound index h kept pop q tour =
    let mine = kept.all.queued bound index pop.was in
    let small = mine.small in
    let is = mine.bound_is in
    let base = h.none_before q tour in
    let there = tour_ends p.grid p.others p.start.cell p.via p.ends p.start.leg q h.arrives tour in
    let m = last_index q in
    elim (cases_lt (m + p.slack) bound) [
      | inr b ↦ b
      | inl b ↦ absurd (none_by p nodes queue m h kept (omega arith) (λ i low w. omega (arith, pop.least (bound_at p (node_at nodes i)) i w)) there.0 there.1 there.2)
    ]

-- where an end is reached at all, one is reached by the limit
end_in_time : (p : Problem) → IsProblem p → (m : ℕ) (t : State) → Reaches (Steps p.grid p.others p.via) p.start m t → IsEnd p.others p.via p.ends m t
    → (n : ℕ) × (n ≤ p.limit) × Reaches (Steps p.grid p.others p.via) p.start n t × IsEnd p.others p.via p.ends n t
end_in_time p h m t r end =
    let soon = end_by_bound p.grid p.others p.via p.ends (λ s. p.estimate s.leg s.cell) p.start (problem_space p h) h.inside h.arrives.few m m t (omega arith) r end in
    (soon.0, omega (arith, soon.1, h.limit_is), soon.2, soon.3)

-- where nothing waits, there is no tour, however long
pub none_found : (p : Problem) (nodes : List Node) (queue : List Entry) → IsProblem p → IsKept p nodes queue None → ((b i : ℕ) → Waiting queue b i → ⊥) → (q : List Cell) → IsTour p.grid p.others p.start.cell p.via p.ends q → ⊥
none_found p nodes queue h kept none q tour =
    let there = tour_ends p.grid p.others p.start.cell p.via p.ends p.start.leg q h.arrives tour in
    let soon = end_in_time p h (last_index q) there.0 there.1 there.2 in
    none_by p nodes queue soon.0 h kept soon.1 (λ i low w. none (bound_at p (node_at nodes i)) i w) there.0 soon.2 soon.3

-- nor where the estimate of the start is beyond the limit
pub none_near : (p : Problem) → IsProblem p → p.limit < p.estimate p.start.leg p.start.cell → (q : List Cell) → IsTour p.grid p.others p.start.cell p.via p.ends q → ⊥
none_near p h far q tour =
    let there = tour_ends p.grid p.others p.start.cell p.via p.ends p.start.leg q h.arrives tour in
    let soon = end_in_time p h (last_index q) there.0 there.1 there.2 in
    let space = problem_space p h in
    let Step = Steps p.grid p.others p.via in
    let Goal = IsEnd p.others p.via p.ends in
    let guess : State → ℕ = λ s. p.estimate s.leg s.cell in
    omega (arith, soon.1, start_before Step Goal p.start (horizon p.others.paths) guess space soon.0 there.0 soon.2, space.at_goal soon.0 there.0 soon.2 soon.3)

-- the path to a node has as many steps as its time
pub trace_size : (p : Problem) (path : List Cell) (n : Node) → IsTrace p path n → last_index path ≡ n.time
trace_size p path n trace =
    let z = leads_size p.grid p.others p.via 0 p.start trace.rest n.time (state_of n) trace.leads in
    let y : last_index (p.start.cell ∷ trace.rest) ≡ n.time = omega arith in
    ap last_index trace.path_is ∙ y

-- the path to the first end is a tour that is late by no more than the slack
pub found_tour : (p : Problem) (nodes : List Node) (queue rest : List Entry) (bound index : ℕ) (path : List Cell) → IsProblem p → IsKept p nodes queue None → Pops queue rest bound index
    → IsEnd p.others p.via p.ends (node_at nodes index).time (state_of (node_at nodes index)) → IsTrace p path (node_at nodes index) → IsLateTour p.grid p.others p.start.cell p.via p.ends p.slack path
found_tour p nodes queue rest bound index path h kept pop end trace =
    let n = node_at nodes index in
    let mine = kept.all.queued bound index pop.was in
    let reach = kept.all.reached index mine.within in
    let from = reach.from in
    let in_time = reach.in_time in
    let is = mine.bound_is in
    let size = trace_size p path n trace in
    let T : List Cell → Type 0 = IsTour p.grid p.others p.start.cell p.via p.ends in
    record {
      is_tour = subst T (sym trace.path_is) (leads_tour p.grid p.others p.start.cell p.via p.ends p.start.leg trace.rest n.time (state_of n) h.inside h.arrives end trace.leads);
      bounded = omega (arith, h.limit_is);
      late = λ q tour. omega (arith, popped_least p nodes queue rest bound index h kept pop q tour);
    }

-- what is taken is a node that was reached
pub popped_within : (p : Problem) (nodes : List Node) (queue rest : List Entry) (bound index : ℕ) → IsKept p nodes queue None → Pops queue rest bound index → index < length nodes
popped_within p nodes queue rest bound index kept pop = (kept.all.queued bound index pop.was).within

-- the time and estimate of the node that is taken are no later than the last index of any tour, and the slack
pub popped_lead : (p : Problem) (nodes : List Node) (queue rest : List Entry) (bound index : ℕ) → IsProblem p → IsKept p nodes queue None → Pops queue rest bound index
    → (q : List Cell) → IsTour p.grid p.others p.start.cell p.via p.ends q → total_at p (node_at nodes index) ≤ last_index q + p.slack
popped_lead p nodes queue rest bound index h kept pop q tour = omega (arith, (kept.all.queued bound index pop.was).bound_is, popped_least p nodes queue rest bound index h kept pop q tour)
