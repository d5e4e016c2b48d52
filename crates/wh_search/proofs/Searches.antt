-- what the search has found when it ends
use Rattle.std.proofs.Common.{◌≡◌, ℕ, ◌≤◌, ◌∙◌, List, ◌∷◌, length, sym, ap, subst, arith}
use Rattle.wh_grid.specs.declared.cell.Cell.{Cell}
use Rattle.wh_grid.specs.Grids.{IsPassable}
use Rattle.wh_path.specs.Paths.{last_index, horizon}
use Rattle.wh_search.specs.declared.noted.Node.{Node}
use Rattle.wh_search.specs.declared.errand.Errand.{Errand}
use Rattle.wh_search.specs.Frontiers.{Problem, problem, state_of, IsErrand, IsTrace}
use Rattle.wh_search.specs.Guides.{guide_estimate}
use Rattle.wh_search.specs.States.{State, Steps, IsEnd}
use Rattle.wh_search.specs.Tours.{IsTour, IsLeastTour}
use Rattle.wh_search.proofs.BestFirst.{IsSpace, IsFrontier, no_goal_by}
use Rattle.wh_search.proofs.Bound.{end_by_bound}
use Rattle.wh_search.proofs.Reach.{is_space, step_falls}
use Rattle.wh_search.proofs.Visits.{tour_ends}
use Rattle.wh_search.proofs.Kept.{Falls}
use Rattle.wh_search.proofs.Paths.{leads_tour, leads_size}

abbrev pub steps_of : Problem → ℕ → State → State → Type 0
steps_of p = Steps p.grid p.others p.via

abbrev pub ends_of : Problem → ℕ → State → Type 0
ends_of p = IsEnd p.others p.via p.ends

abbrev pub guess_of : Problem → State → ℕ
guess_of p s = p.estimate s.leg s.cell

plain_space : (e : Errand) → IsErrand e → IsSpace (steps_of (problem e)) (ends_of (problem e)) (problem e).start (horizon e.others.now.paths) (guess_of (problem e))
plain_space e h = is_space e.grid.now e.others.now e.via.now e.ends.now (guide_estimate e.guide) (problem e).start h.guided h.inside h.arrives.few

pub errand_space : (e : Errand) → IsErrand e → IsSpace (steps_of (problem e)) (ends_of (problem e)) (problem e).start (problem e).horizon (guess_of (problem e))
errand_space e h = subst (λ (n : ℕ). IsSpace (steps_of (problem e)) (ends_of (problem e)) (problem e).start n (guess_of (problem e))) (sym h.horizon_is) (plain_space e h)

-- the estimate falls from each state that was met
pub errand_falls : (e : Errand) → IsErrand e → (k : ℕ) (s : State) → s.leg ≤ length e.via.now → IsPassable e.grid.now s.cell → Falls (problem e) k s
errand_falls e h k s few inside = λ t step. step_falls e.grid.now e.others.now e.via.now e.ends.now (guide_estimate e.guide) h.guided k s t few inside step

-- where nothing that was met waits, there is no tour, however long
pub none_waits : (e : Errand) (Met : ℕ → State → Type 0) (Waits : ℕ → Type 0) → IsErrand e → IsFrontier (steps_of (problem e)) (ends_of (problem e)) (problem e).start (problem e).horizon (problem e).limit (guess_of (problem e)) Met Waits
    → ((bound : ℕ) → Waits bound → ⊥) → (q : List Cell) → IsTour e.grid.now e.others.now e.loc e.via.now e.ends.now q → ⊥
none_waits e Met Waits h noted none q tour =
    let p = problem e in
    let there = tour_ends e.grid.now e.others.now e.loc e.via.now e.ends.now e.first q h.arrives tour in
    let soon = end_by_bound e.grid.now e.others.now e.via.now e.ends.now (guess_of p) p.start (plain_space e h) h.inside h.arrives.few (last_index q) (last_index q) there.0 (omega arith) there.1 there.2 in
    no_goal_by (steps_of p) (ends_of p) p.start p.horizon p.limit (guess_of p) Met Waits (errand_space e h) noted soon.0 (omega (arith, soon.1, h.limit_is))
    (λ c w. absurd (none c w)) there.0 soon.2 soon.3

-- the path to a node has as many steps as its time
pub trace_size : (p : Problem) (path : List Cell) (n : Node) → IsTrace p path n → last_index path ≡ n.time
trace_size p path n trace =
    let z = leads_size p.grid p.others p.via 0 p.start trace.rest n.time (state_of n) trace.leads in
    let y : last_index (p.start.cell ∷ trace.rest) ≡ n.time = omega arith in
    ap last_index trace.path_is ∙ y

-- the path to an end before which no tour ends is a least tour
pub traced_tour : (e : Errand) (n : Node) (path : List Cell) → IsErrand e → n.time ≤ e.limit → ends_of (problem e) n.time (state_of n) → IsTrace (problem e) path n
    → ((q : List Cell) → IsTour e.grid.now e.others.now e.loc e.via.now e.ends.now q → n.time ≤ last_index q) → IsLeastTour e.grid.now e.others.now e.loc e.via.now e.ends.now path
traced_tour e n path h in_time end trace least =
    let p = problem e in
    let size = trace_size p path n trace in
    let T : List Cell → Type 0 = IsTour e.grid.now e.others.now e.loc e.via.now e.ends.now in
    record {
      is_tour = subst T (sym trace.path_is) (leads_tour e.grid.now e.others.now e.loc e.via.now e.ends.now e.first trace.rest n.time (state_of n) h.inside h.arrives end trace.leads);
      bounded = omega (arith, h.limit_is);
      least = λ q tour. omega (arith, least q tour);
    }
