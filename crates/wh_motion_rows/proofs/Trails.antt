-- back from a node to the start
use Rattle.std.proofs.Common.{◌≡◌, ℕ, ◌<◌, inl, inr, ◌∙◌, List, [], ◌∷◌, ◌++◌, length, reverse, refl, sym, subst, add-one, arith}
use Rattle.std.proofs.lemmas.List.{reverse-append}
use Rattle.wh_grid.specs.declared.cell.Cell.{Cell}
use Rattle.wh_search.specs.declared.noted.Node.{Node}
use Rattle.wh_search.specs.Frontiers.{Problem, state_of, node_at, IsTrace}
use Rattle.wh_motion_rows.specs.Layers.{IsChild, IsReached}
use Rattle.wh_search.specs.States.{State, Leads}

-- the cells of the trail, the other way round, lead from this node to that
pub record IsTrail (p : Problem) (nodes : List Node) (place : ℕ) (trail : List Cell) (n : Node) : Type 0 where
  pub within : place < length nodes
  pub leads : Leads p.grid p.others p.via (node_at nodes place).time (state_of (node_at nodes place)) (reverse trail) n.time (state_of n)

reverse-push : (xs : List Cell) (x : Cell) → reverse (xs ++ x ∷ []) ≡ x ∷ reverse xs
reverse-push xs x = reverse-append xs (x ∷ [])

pub trail_child : (p : Problem) (nodes : List Node) (place : ℕ) → 0 < (node_at nodes place).time → IsReached p nodes place (node_at nodes place) → IsChild p nodes place (node_at nodes place)
trail_child p nodes place late r = elim r.comes [ inl s ↦ (let e = s.0 in absurd (omega arith)) | inr c ↦ c ]

pub trail_push : (p : Problem) (nodes : List Node) (place : ℕ) (trail : List Cell) (n : Node) → IsTrail p nodes place trail n → IsChild p nodes place (node_at nodes place)
    → IsTrail p nodes (node_at nodes place).parent (trail ++ (node_at nodes place).cell ∷ []) n
trail_push p nodes place trail n t c =
    let x = node_at nodes place in
    let q = node_at nodes x.parent in
    let within = t.within in
    let earlier = c.earlier in
    let T : ℕ → Type 0 = λ k. Leads p.grid p.others p.via k (state_of x) (reverse trail) n.time (state_of n) in
    let L : List Cell → Type 0 = λ cs. Leads p.grid p.others p.via q.time (state_of q) cs n.time (state_of n) in
    record {
      within = omega arith;
      leads = subst L (sym (reverse-push trail x.cell)) (state_of x, refl, c.steps, subst T (c.later ∙ add-one q.time) t.leads);
    }

pub trail_trace : (p : Problem) (nodes : List Node) (place : ℕ) (trail : List Cell) (n : Node) → IsTrail p nodes place trail n → (node_at nodes place).time ≡ 0 → IsReached p nodes place (node_at nodes place)
    → IsTrace p (reverse (trail ++ p.start.cell ∷ [])) n
trail_trace p nodes place trail n t z r =
    let x = node_at nodes place in
    let is : state_of x ≡ p.start = elim r.comes [ inl s ↦ s.1 | inr c ↦ (let e = c.later in absurd (omega arith)) ] in
    let S : State → Type 0 = λ s. Leads p.grid p.others p.via 0 s (reverse trail) n.time (state_of n) in
    let T : ℕ → Type 0 = λ k. Leads p.grid p.others p.via k (state_of x) (reverse trail) n.time (state_of n) in
    record { rest = reverse trail; path_is = reverse-push trail p.start.cell; leads = subst S is (subst T z t.leads) }
