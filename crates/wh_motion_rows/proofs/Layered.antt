-- the search in layers: what it keeps, and what it has found when it ends
use Rattle.std.proofs.Common.{◌≡◌, ℕ, ◌+◌, ◌<◌, ◌≤◌, ◌⊎◌, inl, inr, ◌∙◌, List, [], ◌∷◌, ◌++◌, length, take, sym, ap, subst, All, Contains, refl, arith}
use Rattle.std.proofs.lemmas.Bool.{cases_lt}
use Rattle.std.proofs.lemmas.List.Elements.{All-weaker, All-contains, All-more}
use Rattle.wh_grid.specs.declared.cell.Cell.{Cell}
use Rattle.wh_grid.specs.Grids.{IsPassable, IsMove}
use Rattle.wh_search.specs.Steps.{Go}
use Rattle.wh_search.specs.declared.errand.Errand.{Errand}
use Rattle.wh_search.specs.declared.noted.Node.{Node}
use Rattle.wh_search.specs.Frontiers.{Problem, problem, state_of, node_at, HasState, IsErrand, IsTrace}
use Rattle.wh_motion_rows.specs.Layers.{IsReached, IsExpanded, IsLayered, Notes}
use Rattle.wh_search.specs.States.{State, Arrives, Steps, IsEnd}
use Rattle.wh_search.specs.Tours.{IsTour, IsLeastTour}
use Rattle.wh_search.proofs.BestFirst.{IsDone, IsFrontier}
use Rattle.wh_search.proofs.Expands.{move_at, arrives_one}
use Rattle.wh_search.proofs.Kept.{old_node, new_node, one_longer}
use Rattle.wh_search.proofs.Searches.{steps_of, ends_of, guess_of, none_waits, traced_tour}
use Rattle.wh_motion_rows.proofs.Nodes.{has_more, has_new, expanded_more, reached_more, IsThere, has_covers, expanded_done, none_sooner}

-- the first node
pub layered_first : (p : Problem) (nodes : List Node) (n : Node) → n.time ≡ 0 → state_of n ≡ p.start → p.start.leg ≤ length p.via → IsPassable p.grid p.start.cell → Notes p [] nodes n → IsLayered p nodes 0
layered_first p nodes n z s few inside (inl x) = let w = x.1.within in absurd (omega arith)
layered_first p nodes n z s few inside (inr e) =
    let one : (i : ℕ) → i < length (n ∷ []) → i ≡ 0 = λ i b. omega arith in
    let R : ℕ → Type 0 = λ j. IsReached p (n ∷ []) j (node_at (n ∷ []) j) in
    let T : ℕ → ℕ → Type 0 = λ i j. (node_at (n ∷ []) i).time ≤ (node_at (n ∷ []) j).time in
    subst (λ (x : List Node). IsLayered p x 0) (sym e)
    (record {
      start = subst (λ (k : ℕ). HasState p (n ∷ []) k p.start) z (subst (HasState p (n ∷ []) n.time) s (has_new p [] n));
      reached = λ i b. subst R (sym (one i b)) (record { in_time = omega arith; few = subst (λ (x : State). x.leg ≤ length p.via) (sym s) few; inside = subst (λ (x : State). IsPassable p.grid x.cell) (sym s) inside; comes = inl (z, s) });
      sorted = λ i j le b. let i_first = one i (omega arith) in let j_first = one j b in subst (λ k. T k j) (sym i_first) (subst (T 0) (sym j_first) (omega arith));
      near = λ i b c. let i_first = one i b in subst (λ k. (node_at (n ∷ []) k).time ≤ (node_at (n ∷ []) 0).time + 1) (sym i_first) (omega arith);
      expanded = λ i b c. absurd (omega arith);
    })

-- one node more, a step after the one that is looked at
pub layered_push : (p : Problem) (nodes : List Node) (index : ℕ) (n : Node) → IsLayered p nodes index → index < length nodes → IsReached p nodes (length nodes) n → n.time ≡ (node_at nodes index).time + 1 → IsLayered p (nodes ++ n ∷ []) index
layered_push p nodes index n x within r late =
    let all = nodes ++ n ∷ [] in
    let long = one_longer nodes n in
    let new = new_node nodes n in
    let time_of : Node → ℕ = λ y. y.time in
    let same : (i : ℕ) → i < length all → (i < length nodes) ⊎ (i ≡ length nodes) = λ i b. elim (cases_lt i (length nodes)) [ inl y ↦ inl y | inr y ↦ inr (let e : i ≡ length nodes = omega arith in e) ] in
    let old_time : (i : ℕ) → i < length nodes → (node_at all i).time ≡ (node_at nodes i).time = λ i b. ap time_of (old_node nodes n i b) in
    let new_time : (i : ℕ) → i ≡ length nodes → (node_at all i).time ≡ n.time = λ i e. ap (λ j. (node_at all j).time) e ∙ ap time_of new in
    record {
      start = has_more p nodes n 0 p.start x.start;
      reached = λ i b. elim (same i b) [
        | inl y ↦ subst (IsReached p all i) (sym (old_node nodes n i y)) (reached_more p nodes n i (node_at nodes i) (omega arith) (x.reached i y))
        | inr e ↦ (let P : ℕ → Type 0 = λ j. IsReached p all j (node_at all j) in
            subst P (sym e) (subst (IsReached p all (length nodes)) (sym new) (reached_more p nodes n (length nodes) n (omega arith) r)))
      ];
      sorted = λ i j le b. elim (same j b) [
        | inl y ↦ omega (arith, old_time i (omega arith), old_time j y, x.sorted i j le y)
        | inr e ↦ elim (cases_lt i (length nodes)) [
          | inl y ↦ omega (arith, old_time i y, new_time j e, x.near i y within)
          | inr y ↦ (let f : i ≡ length nodes = omega arith in omega (arith, new_time i f, new_time j e))
        ]
      ];
      near = λ i b c. elim (same i b) [
        | inl y ↦ omega (arith, old_time i y, old_time index within, x.near i y within)
        | inr e ↦ omega (arith, new_time i e, old_time index within)
      ];
      expanded = λ i b c. let y : i < length nodes = omega arith in subst (λ (m : Node). IsExpanded p all m.time (state_of m) (p.limit + 1)) (sym (old_node nodes n i y)) (expanded_more p nodes n (node_at nodes i).time (state_of (node_at nodes i)) (p.limit + 1) (x.expanded i b y));
    }

-- the node that was looked at is expanded
pub layered_next : (p : Problem) (nodes : List Node) (index : ℕ) → IsLayered p nodes index → index < length nodes → IsExpanded p nodes (node_at nodes index).time (state_of (node_at nodes index)) (p.limit + 1) → IsLayered p nodes (index + 1)
layered_next p nodes index x within done =
    let E : ℕ → Type 0 = λ j. IsExpanded p nodes (node_at nodes j).time (state_of (node_at nodes j)) (p.limit + 1) in
    record {
      start = x.start;
      reached = x.reached;
      sorted = x.sorted;
      near = λ i b c. omega (arith, x.near i b within, x.sorted index (index + 1) (omega arith) c);
      expanded = λ i b c. elim (cases_lt i index) [
        | inl y ↦ x.expanded i y c
        | inr y ↦ (let e : index ≡ i = omega arith in subst E e done)
      ];
    }

-- the state to which the node leads at this cell was met
abbrev pub IsMetAt : Problem → List Node → Node → Cell → Type 0
IsMetAt p nodes from c = (m : ℕ) → Go p.grid p.others from.time from.cell c → Arrives p.via from.leg c m → HasState p nodes (from.time + 1) (record { leg = m; cell = c })

-- what the loop over the moves keeps
pub record IsSpreading (p : Problem) (nodes : List Node) (index : ℕ) (from : Node) (done : List Cell) : Type 0 where
  pub kept : IsLayered p nodes index
  pub within : index < length nodes
  pub here : node_at nodes index ≡ from
  pub met : All (IsMetAt p nodes from) done

-- one move more, that is allowed
pub spreading_met : (p : Problem) (nodes new_nodes : List Node) (index : ℕ) (from : Node) (moves : List Cell) (i m : ℕ) → i < length moves → IsSpreading p nodes index from (take i moves) → Go p.grid p.others from.time from.cell (move_at moves i) → Arrives p.via from.leg (move_at moves i) m
    → from.time < p.limit → Notes p nodes new_nodes (record { time = from.time + 1; leg = m; cell = move_at moves i; parent = index }) → IsSpreading p new_nodes index from (take (i + 1) moves)
spreading_met p nodes new_nodes index from moves i m small x go arr late notes =
    let c = move_at moves i in
    let n : Node = record { time = from.time + 1; leg = m; cell = c; parent = index } in
    let one : (ns : List Node) → HasState p ns (from.time + 1) (record { leg = m; cell = c }) → IsMetAt p ns from c = λ ns h j g a. let P : ℕ → Type 0 = λ k. HasState p ns (from.time + 1) (record { leg = k; cell = c }) in subst P (arrives_one p.via from.leg c m j arr a) h in
    elim notes [
      | inl y ↦ subst (λ (ns : List Node). IsSpreading p ns index from (take (i + 1) moves)) (sym y.0)
          (record { kept = x.kept; within = x.within; here = x.here; met = All-more (IsMetAt p nodes from) moves i (record { x = 0; y = 0 }) small x.met (one nodes y.1) })
      | inr e ↦ (let within = x.within in
          let all = nodes ++ n ∷ [] in
          let S : Node → Type 0 = λ y. Steps p.grid p.others p.via y.time (state_of y) (state_of n) in
          let reached : IsReached p nodes (length nodes) n = record {
            in_time = omega arith;
            few = arr.few;
            inside = go.passable;
            comes = inr (record {
              earlier = within;
              later = ap (λ (y : Node). y.time + 1) (sym x.here);
              steps = subst S (sym x.here) (record { goes = go; arrives = arr });
            });
          } in
          subst (λ (ns : List Node). IsSpreading p ns index from (take (i + 1) moves)) (sym e)
          (record {
            kept = layered_push p nodes index n x.kept within reached (ap (λ (y : Node). y.time + 1) (sym x.here));
            within = omega (arith, one_longer nodes n);
            here = old_node nodes n index within ∙ x.here;
            met = All-more (IsMetAt p all from) moves i (record { x = 0; y = 0 }) small
                (All-weaker (IsMetAt p nodes from) (IsMetAt p all from) (λ d h j g a. has_more p nodes n (from.time + 1) (record { leg = j; cell = d }) (h j g a)) (take i moves) x.met)
                (one all (has_new p nodes n));
          }))
    ]

-- one move more, that is not allowed
pub spreading_not : (p : Problem) (nodes : List Node) (index : ℕ) (from : Node) (moves : List Cell) (i : ℕ) → i < length moves → IsSpreading p nodes index from (take i moves) → (Go p.grid p.others from.time from.cell (move_at moves i) → ⊥) → IsSpreading p nodes index from (take (i + 1) moves)
spreading_not p nodes index from moves i small x none =
    record { kept = x.kept; within = x.within; here = x.here; met = All-more (IsMetAt p nodes from) moves i (record { x = 0; y = 0 }) small x.met (λ m g a. absurd (none g)) }

-- all moves are through
pub spreading_done : (p : Problem) (nodes : List Node) (index : ℕ) (from : Node) (moves : List Cell) → IsSpreading p nodes index from moves → ((c : Cell) → c.x < 65536 → c.y < 65536 → IsMove from.cell c → Contains moves c)
    → p.grid.width ≤ 65536 → p.grid.height ≤ 65536 → (IsEnd p.others p.via p.ends from.time (state_of from) → ⊥) → IsLayered p nodes (index + 1)
spreading_done p nodes index from moves x all w h no_end =
    layered_next p nodes index x.kept x.within
    (subst (λ (y : Node). IsExpanded p nodes y.time (state_of y) (p.limit + 1)) (sym x.here)
    (record {
      onward = λ t step less few.
          let inside = step.goes.passable in
          let a = inside.in_width in
          let b = inside.in_height in
          All-contains (IsMetAt p nodes from) moves t.cell x.met (all t.cell (omega arith) (omega arith) step.goes.move) t.leg step.goes step.arrives;
      no_end = λ _. no_end;
    }))

-- a node at the limit leads to nothing within it
pub layered_late : (p : Problem) (nodes : List Node) (index : ℕ) → IsLayered p nodes index → index < length nodes → p.limit ≤ (node_at nodes index).time → (IsEnd p.others p.via p.ends (node_at nodes index).time (state_of (node_at nodes index)) → ⊥) → IsLayered p nodes (index + 1)
layered_late p nodes index x within late no_end =
    layered_next p nodes index x within (record { onward = λ t step less few. absurd (omega arith); no_end = λ _. no_end })

-- the nodes from the next one on wait, each with its time
abbrev TimeWaits : List Node → ℕ → ℕ → Type 0
TimeWaits nodes next bound = (i : ℕ) × (next ≤ i) × (i < length nodes) × (bound ≡ (node_at nodes i).time)

layers_frontier : (p : Problem) (nodes : List Node) (next : ℕ) → IsLayered p nodes next → IsFrontier (steps_of p) (ends_of p) p.start p.horizon p.limit (guess_of p) (IsThere nodes) (TimeWaits nodes next)
layers_frontier p nodes next x =
    record {
      start_met = λ few.
          let c = has_covers p nodes 0 p.start x.start in
          let early : c.time ≡ 0 = elim c.alike [ inl e ↦ e | inr q ↦ (let z : c.time ≡ 0 = omega (arith, q.1) in z) ] in
          subst (λ (k : ℕ). IsThere nodes k p.start) early c.holds;
      each = λ k s h.
          let n = node_at nodes h.index in
          let D : ℕ → ℕ → State → Type 0 = λ b j t. IsDone (steps_of p) (ends_of p) p.horizon p.limit (guess_of p) (IsThere nodes) j t b in
          let here : (b : ℕ) → IsExpanded p nodes n.time (state_of n) b → D b k s = λ b y. subst (λ (j : ℕ). D b j s) h.time_is (subst (D b n.time) h.state_is (expanded_done p nodes n.time (state_of n) b y)) in
          elim (cases_lt h.index next) [
            | inl y ↦ (p.limit + 1, here (p.limit + 1) (x.expanded h.index y h.within), inr (omega arith))
            | inr y ↦ (n.time, here n.time (record { onward = λ t step less few. absurd (omega arith); no_end = λ less. absurd (omega arith) }), inl (h.index, y, h.within, refl))
          ];
    }

-- where all are expanded, there is no tour, however long
pub layers_none : (e : Errand) (nodes : List Node) (next : ℕ) → IsErrand e → IsLayered (problem e) nodes next → length nodes ≤ next → (q : List Cell) → IsTour e.grid.now e.others.now e.loc e.via.now e.ends.now q → ⊥
layers_none e nodes next h x all = none_waits e (IsThere nodes) (TimeWaits nodes next) h (layers_frontier (problem e) nodes next x) (λ b w. let y = w.1 in let z = w.2 in absurd (omega arith))

-- the path to the first end is a least tour
pub layers_found : (e : Errand) (nodes : List Node) (next : ℕ) (path : List Cell) → IsErrand e → IsLayered (problem e) nodes next → next < length nodes → ends_of (problem e) (node_at nodes next).time (state_of (node_at nodes next)) → IsTrace (problem e) path (node_at nodes next)
    → IsLeastTour e.grid.now e.others.now e.loc e.via.now e.ends.now path
layers_found e nodes next path h x within end trace =
    let in_time = (x.reached next within).in_time in
    traced_tour e (node_at nodes next) path h in_time end trace
    (none_sooner e (IsThere nodes) (TimeWaits nodes next) (node_at nodes next).time h (layers_frontier (problem e) nodes next x) in_time (λ b w. omega (arith, w.3, x.sorted next w.0 w.1 w.2)))
