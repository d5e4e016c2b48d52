-- the nearest of several cells, and the walk to it turned round
use Rattle.std.proofs.Common.{◌≡◌, ℕ, ◌+◌, ◌-◌, ◌<◌, ◌≤◌, ◌∙◌, inl, inr, List, [], ◌∷◌, length, reverse, get_or, sym, ap, subst, arith, Contains}
use Rattle.std.proofs.lemmas.Bool.{cases_lt}
use Rattle.std.proofs.lemmas.List.{length-reverse, get_or_default}
use Rattle.wh_grid.specs.declared.cell.Cell.{Cell}
use Rattle.wh_grid.specs.Grids.{Floor, IsPassable}
use Rattle.wh_path.specs.Paths.{cell_at, last_index}
use Rattle.wh_path.proofs.WalkLemmas.{walk_reverse, at-reverse}
use Rattle.wh_field.specs.Distances.{IsRoute, IsLeastRoute, IsNearestRoute}
use Rattle.wh_field.specs.Places.{IsSurveyed, IsLeastAt, IsDescent, IsSteps, IsNearestBefore, place}
use Rattle.wh_field.specs.Tables.{value, blocked}
use Rattle.wh_field.proofs.Places.{row_ends}
use Rattle.wh_field.proofs.Early.{surveyed_falls}
use Rattle.wh_field.proofs.Walks.{path_least, path_to_least, first_of}
use Rattle.wh_field.proofs.Descents.{start_allowed, descent_route}

-- what the table has at the place of a cell within the grid
pub steps_inside : (g : Floor) (avoid : List Cell) (t : List ℕ) (from to : Cell) (i : ℕ) → IsSurveyed g avoid (from ∷ []) t → to.x < g.width → to.y < g.height →
    i ≡ place g to → IsSteps g avoid t from to (get_or t i 0)
steps_inside g avoid t from to i s wx wy here =
    let size = s.ground.size in
    let ends = row_ends g to wx wy in
    let read : value t (place g to) ≡ get_or t i 0 = get_or_default t (place g to) 4294967294 0 (omega arith) ∙ ap (λ k. get_or t k 0) (sym here) in
    record {
      met = λ low. (start_allowed g avoid (from ∷ []) t to (surveyed_falls g avoid (from ∷ []) t s) wx (omega arith), read);
      least = λ q r. (let h = path_least g avoid (from ∷ []) t from to q s (first_of from) r in let a = h.0 in let b = h.1 in (omega arith, omega arith));
    }

-- no steps lead to a cell outside
pub steps_outside : (g : Floor) (avoid : List Cell) (t : List ℕ) (from to : Cell) → ((to.x < g.width) × (to.y < g.height) → ⊥) → IsSteps g avoid t from to blocked
steps_outside g avoid t from to out = record {
  met = λ low. absurd (omega arith);
  least = λ q r. absurd (let a = subst (IsPassable g) r.walk.ends (r.walk.walk.passable (last_index q)) in out (a.in_width, a.in_height));
}

-- the next cell is nearer than those before
pub near_closer : (g : Floor) (avoid : List Cell) (t : List ℕ) (from : Cell) (targets : List Cell) (k index steps n : ℕ) →
    IsNearestBefore g avoid t from targets k index steps → IsSteps g avoid t from (cell_at targets k) n → n < steps → IsNearestBefore g avoid t from targets (k + 1) k n
near_closer g avoid t from targets k index steps n old this less =
    let most = old.most in
    record {
      most = omega arith;
      found = λ low. (omega arith, this);
      nearest = λ j q lt r. elim (cases_lt j k) [
        | inl before ↦
            let o = old.nearest j q before r in
            elim o.1 [
              | inl more ↦ (omega arith, inl (omega arith))
              | inr same ↦ (let e = same.0 in (omega arith, inl (omega arith)))
            ]
        | inr not_before ↦
            let e : j ≡ k = omega arith in
            let l = this.least q (subst (λ i. IsRoute g from (cell_at targets i) avoid q) e r) in
            let few = l.0 in
            let low = l.1 in
            elim (cases_lt n (last_index q)) [
              | inl more ↦ (low, inl more)
              | inr equal ↦ (low, inr (omega arith, omega arith))
            ]
      ];
    }

-- it is not nearer
pub near_kept : (g : Floor) (avoid : List Cell) (t : List ℕ) (from : Cell) (targets : List Cell) (k index steps n : ℕ) →
    IsNearestBefore g avoid t from targets k index steps → IsSteps g avoid t from (cell_at targets k) n → steps ≤ n → IsNearestBefore g avoid t from targets (k + 1) index steps
near_kept g avoid t from targets k index steps n old this more =
    record {
      most = old.most;
      found = λ low. (let f = old.found low in let h = f.0 in (omega arith, f.1));
      nearest = λ j q lt r. elim (cases_lt j k) [
        | inl before ↦ old.nearest j q before r
        | inr not_before ↦
            let e : j ≡ k = omega arith in
            let l = this.least q (subst (λ i. IsRoute g from (cell_at targets i) avoid q) e r) in
            let few = l.0 in
            let under = l.1 in
            let low : steps < blocked = omega arith in
            let f = old.found low in
            let h = f.0 in
            elim (cases_lt steps (last_index q)) [
              | inl longer ↦ (low, inl longer)
              | inr equal ↦ (low, inr (omega arith, omega arith))
            ]
      ];
    }

pub route_reverse : (g : Floor) (from to : Cell) (avoid p : List Cell) → IsRoute g from to avoid p → IsRoute g to from avoid (reverse p)
route_reverse g from to avoid p r = record {
  walk = walk_reverse g from to p r.walk;
  avoids = λ k m. r.avoids (last_index p - k) (subst (Contains avoid) (at-reverse p k r.walk.walk.non_empty) m);
}

-- measured from the other end
pub least_back : (g : Floor) (avoid : List Cell) (t : List ℕ) (from to : Cell) (i : ℕ) (q : List Cell) → IsLeastAt g avoid to i t → place g from ≡ i → IsRoute g from to avoid q →
    (value t i ≤ last_index q) × (value t i < blocked)
least_back g avoid t from to i q l here r =
    let h = l.least from (reverse q) here (route_reverse g from to avoid q r) in
    let a = h.0 in
    let b = length-reverse q in
    (omega arith, h.1)

pub least_reverse : (g : Floor) (from to : Cell) (avoid p : List Cell) → IsLeastRoute g from to avoid p → IsLeastRoute g to from avoid (reverse p)
least_reverse g from to avoid p l = record {
  route = route_reverse g from to avoid p l.route;
  least = λ q r. (let h = l.least (reverse q) (route_reverse g to from avoid q r) in let a = length-reverse p in let b = length-reverse q in omega arith);
}

-- the walk down from the nearest, turned round
pub nearest_route : (g : Floor) (avoid : List Cell) (t : List ℕ) (from : Cell) (targets : List Cell) (index steps : ℕ) (p : List Cell) → IsSurveyed g avoid (from ∷ []) t →
    IsNearestBefore g avoid t from targets (length targets) index steps → steps < blocked →
    IsDescent g avoid t (cell_at targets index) from steps 0 p → IsNearestRoute g from targets avoid index (reverse p)
nearest_route g avoid t from targets index steps p s near low d =
    let f = near.found low in
    let size = d.size in
    let long = length-reverse p in
    record {
      within = f.0;
      route = least_reverse g (cell_at targets index) from avoid p (descent_route g avoid t (cell_at targets index) from steps p
          (λ q r. (let h = path_to_least g avoid (from ∷ []) t (cell_at targets index) from q s (first_of from) r in let l = h.0 in let e = (f.1.met low).1 in omega arith)) d);
      nearest = λ j q lt r. elim (near.nearest j q lt r).1 [
        | inl more ↦ inl (omega arith)
        | inr same ↦ (let e = same.0 in let h = same.1 in inr (omega arith, omega arith))
      ];
    }

-- none is reached
pub none_near : (g : Floor) (avoid : List Cell) (t : List ℕ) (from : Cell) (targets : List Cell) (index steps : ℕ) →
    IsNearestBefore g avoid t from targets (length targets) index steps → blocked ≤ steps →
    (j : ℕ) (p : List Cell) → j < length targets → IsRoute g from (cell_at targets j) avoid p → ⊥
none_near g avoid t from targets index steps near high j p lt r = (let n = near.nearest j p lt r in let h = n.0 in omega arith)
