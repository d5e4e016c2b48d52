-- between the numbers of a table and walks over its cells
use Rattle.std.proofs.Common.{◌≡◌, ℕ, ◌+◌, ◌*◌, ◌<◌, ◌≤◌, inl, inr, ◌∙◌, List, [], ◌∷◌, ◌++◌, length, refl, sym, ap, subst, suc, zero, add-one, arith, Contains, Some}
use Rattle.std.proofs.lemmas.Bool.{cases_lt}
use Rattle.std.proofs.lemmas.List.{length_push}
use Rattle.wh_grid.specs.declared.cell.Cell.{Cell}
use Rattle.wh_grid.specs.Grids.{Floor, IsPassable, IsAdjacent, IsMove}
use Rattle.wh_path.specs.Paths.{at, last_index}
use Rattle.wh_path.specs.Walks.{IsWalkBetween}
use Rattle.wh_path.proofs.AtLemmas.{at-one, at-old, at-new}
use Rattle.wh_path.proofs.WalkLemmas.{walk_one, walk_push}
use Rattle.wh_field.specs.Tables.{value, blocked, IsBeside}
use Rattle.wh_field.specs.Places.{place, IsAllowed, IsGround, IsSurveyed}
use Rattle.wh_field.specs.Distances.{IsDistance, IsRoute}
use Rattle.wh_field.proofs.Tables.{Contains-none, Contains-cases}
use Rattle.wh_field.proofs.Places.{place_one, next_row}

-- neighbours have places beside each other
pub adjacent_beside : (g : Floor) (c d : Cell) → IsAdjacent c d → IsBeside (g.width + 1) (place g c) (place g d)
adjacent_beside g c d (inl (e, inl f)) = inl (inl (let z = ap (λ (y : ℕ). (y + 1) * (g.width + 1)) e in omega arith))
adjacent_beside g c d (inl (e, inr f)) = inl (inr (let z = ap (λ (y : ℕ). (y + 1) * (g.width + 1)) e in omega arith))
adjacent_beside g c d (inr (e, inl f)) = inr (inl (let z = ap (λ (y : ℕ). (y + 1) * (g.width + 1)) f in let n = next_row c.y (g.width + 1) in omega arith))
adjacent_beside g c d (inr (e, inr f)) = inr (inr (let z = ap (λ (y : ℕ). (y + 1) * (g.width + 1)) f in let n = next_row d.y (g.width + 1) in omega arith))

pub adjacent_other : (c d : Cell) → IsAdjacent c d → IsAdjacent d c
adjacent_other c d (inl (e, inl f)) = inl (sym e, inr f)
adjacent_other c d (inl (e, inr f)) = inl (sym e, inl f)
adjacent_other c d (inr (e, inl f)) = inr (sym e, inr f)
adjacent_other c d (inr (e, inr f)) = inr (sym e, inl f)

pub beside_right : (g : Floor) (c d : Cell) → c.x < g.width → d.x < g.width → place g c + 1 ≡ place g d → IsAdjacent c d
beside_right g c d p q e =
    let r : Cell = record { x = c.x + 1; y = c.y } in
    let same : r ≡ d = place_one g r d (omega arith) (omega arith) (let z : (c.y + 1) * (g.width + 1) + (c.x + 1) ≡ (d.y + 1) * (g.width + 1) + d.x = omega arith in z) in
    subst (IsAdjacent c) same (let w : IsAdjacent c r = inl (refl, inl refl) in w)

pub beside_down : (g : Floor) (c d : Cell) → c.x < g.width → d.x < g.width → place g c + (g.width + 1) ≡ place g d → IsAdjacent c d
beside_down g c d p q e =
    let r : Cell = record { x = c.x; y = c.y + 1 } in
    let n = next_row c.y (g.width + 1) in
    let same : r ≡ d = place_one g r d (omega arith) (omega arith) (let z : (c.y + 1 + 1) * (g.width + 1) + c.x ≡ (d.y + 1) * (g.width + 1) + d.x = omega arith in z) in
    subst (IsAdjacent c) same (let w : IsAdjacent c r = inr (refl, inl refl) in w)

-- and cells whose places are beside each other are neighbours
pub beside_adjacent : (g : Floor) (c d : Cell) → c.x < g.width → d.x < g.width → IsBeside (g.width + 1) (place g c) (place g d) → IsAdjacent c d
beside_adjacent g c d p q (inl (inl e)) = beside_right g c d p q e
beside_adjacent g c d p q (inl (inr e)) = adjacent_other d c (beside_right g d c q p e)
beside_adjacent g c d p q (inr (inl e)) = beside_down g c d p q e
beside_adjacent g c d p q (inr (inr e)) = adjacent_other d c (beside_down g d c q p e)

-- the cells of a route are allowed
pub route_allowed : (g : Floor) (from to : Cell) (avoid p : List Cell) → IsRoute g from to avoid p → (k : ℕ) → IsAllowed g avoid (at p k)
route_allowed g from to avoid p h k = record { passable = h.walk.walk.passable k; apart = h.avoids k }

pub route_one : (g : Floor) (avoid : List Cell) (c : Cell) → IsAllowed g avoid c → IsRoute g c c avoid (c ∷ [])
route_one g avoid c a =
    record { walk = walk_one g c a.passable; avoids = λ k m. a.apart (subst (Contains avoid) (at-one c k) m) }

-- one step more
pub route_push : (g : Floor) (avoid : List Cell) (from b c : Cell) (p : List Cell) → IsRoute g from b avoid p → IsAllowed g avoid c → IsMove b c → IsRoute g from c avoid (p ++ c ∷ [])
route_push g avoid from b c p h a m =
    record {
      walk = walk_push g from b c p h.walk a.passable m;
      avoids = λ k z. elim (cases_lt k (length p)) [
        | inl less ↦ h.avoids k (subst (Contains avoid) (at-old p c k less) z)
        | inr more ↦ a.apart (subst (Contains avoid) (at-new p c k more) z)
      ];
    }

-- each walk avoids no cell
pub walk_route : (g : Floor) (from to : Cell) (p : List Cell) → IsWalkBetween g from to p → IsRoute g from to [] p
walk_route g from to p w = record { walk = w; avoids = λ k m. Contains-none (at p k) m }

-- a table's numbers never exceed the steps of a path from a source
pub met_within : (g : Floor) (avoid sources : List Cell) (t : List ℕ) (from to : Cell) (p : List Cell) → IsSurveyed g avoid sources t → Contains sources from → IsRoute g from to avoid p → (k : ℕ) → (value t (place g (at p k)) ≤ k) × (value t (place g (at p k)) < blocked)
met_within g avoid sources t from to p s c h zero =
    let z : value t (place g (at p 0)) ≡ 0 = (s.ground.zero (place g (at p 0))).1 (record { cell = at p 0; source = subst (Contains sources) (sym h.walk.starts) c; here = refl; allowed = route_allowed g from to avoid p h 0 }) in
    (omega arith, omega arith)
met_within g avoid sources t from to p s c h (suc k) =
    let before = met_within g avoid sources t from to p s c h k in
    let low = before.0 in
    let met = before.1 in
    let move : IsMove (at p k) (at p (suc k)) = subst (λ (j : ℕ). IsMove (at p k) (at p j)) (add-one k) (h.walk.walk.moves k) in
    elim move [
      | inl same ↦ (let e : value t (place g (at p k)) ≡ value t (place g (at p (suc k))) = ap (λ x. value t (place g x)) same in (omega arith, omega arith))
      | inr b ↦ (let ne = s.ground.not_blocked (at p (suc k)) (route_allowed g from to avoid p h (suc k)) in
          let near = s.levels.onward (place g (at p k)) (place g (at p (suc k))) met (adjacent_beside g (at p k) (at p (suc k)) b) ne in
          (omega arith, elim (cases_lt (value t (place g (at p (suc k)))) blocked) [ inl x ↦ x | inr x ↦ absurd (ne (omega arith)) ]))
    ]

-- and there is a path of as many steps as a table's number
pub record Comes (g : Floor) (avoid sources : List Cell) (to : Cell) (n : ℕ) : Type 0 where
  pub from : Cell
  pub source : Contains sources from
  pub path : List Cell
  pub route : IsRoute g from to avoid path
  pub size : last_index path ≡ n

pub comes_in : (g : Floor) (avoid sources : List Cell) (t : List ℕ) (n : ℕ) (to : Cell) → IsGround g avoid sources t → ((i m : ℕ) → m + 1 < blocked → value t i ≡ m + 1 → (j : ℕ) × IsBeside (g.width + 1) j i × (value t j ≡ m)) → to.x < g.width → n < blocked → value t (place g to) ≡ n → Comes g avoid sources to n
comes_in g avoid sources t zero to s falls w b e =
    let z = (s.zero (place g to)).0 e in
    let v = z.allowed.passable.in_width in
    let same : z.cell ≡ to = place_one g z.cell to (omega arith) (omega arith) z.here in
    record {
      from = to;
      source = subst (Contains sources) same z.source;
      path = to ∷ [];
      route = route_one g avoid to (subst (IsAllowed g avoid) same z.allowed);
      size = refl;
    }
comes_in g avoid sources t (suc n) to s falls w b e =
    let here = s.allowed (place g to) (λ z. absurd (omega arith)) in
    let v = here.allowed.passable.in_width in
    let same : here.cell ≡ to = place_one g here.cell to (omega arith) (omega arith) here.here in
    let back = falls (place g to) n (omega arith) (e ∙ sym (add-one n)) in
    let j = back.0 in
    let near = back.2 in
    let there = s.allowed j (λ z. absurd (omega arith)) in
    let from_there : IsBeside (g.width + 1) (place g there.cell) (place g to) = subst (λ (i : ℕ). IsBeside (g.width + 1) i (place g to)) (sym there.here) back.1 in
    let u = there.allowed.passable.in_width in
    let comes = comes_in g avoid sources t n there.cell s falls u (omega arith) (ap (λ i. value t i) there.here ∙ near) in
    let some = comes.route.walk.walk.non_empty in
    let count = comes.size in
    let size = length_push comes.path to in
    record {
      from = comes.from;
      source = comes.source;
      path = comes.path ++ to ∷ [];
      route = route_push g avoid comes.from there.cell to comes.path comes.route (subst (IsAllowed g avoid) same here.allowed) (inr (beside_adjacent g there.cell to u w from_there));
      size = omega arith;
    }

-- where a path ends, its last index is no smaller than the table's number
pub path_least : (g : Floor) (avoid sources : List Cell) (t : List ℕ) (from to : Cell) (p : List Cell) → IsSurveyed g avoid sources t → Contains sources from → IsRoute g from to avoid p → (value t (place g to) ≤ last_index p) × (value t (place g to) < blocked)
path_least g avoid sources t from to p s c h =
    let P : Cell → Type 0 = λ x. (value t (place g x) ≤ last_index p) × (value t (place g x) < blocked) in
    subst P h.walk.ends (met_within g avoid sources t from to p s c h (last_index p))

pub only_one : (x y : Cell) → Contains (x ∷ []) y → x ≡ y
only_one x y c = elim (Contains-cases y x [] c) [ inl e ↦ e | inr n ↦ absurd (Contains-none y n) ]

pub first_of : (x : Cell) → Contains (x ∷ []) x
first_of x = (0, omega arith, refl)

-- the number of a cell is its distance
pub surveyed_least : (g : Floor) (source to : Cell) (t : List ℕ) (n : ℕ) → IsSurveyed g [] (source ∷ []) t → to.x < g.width → n < blocked → value t (place g to) ≡ n → IsDistance g source to (Some n)
surveyed_least g source to t n s w b e =
    let comes = comes_in g [] (source ∷ []) t n to s.ground s.levels.back w b e in
    let size = comes.size in (
      comes.path,
      record {
        walk = subst (λ (x : Cell). IsWalkBetween g x to comes.path) (sym (only_one source comes.from comes.source)) comes.route.walk;
        least = λ q w. let h = path_least g [] (source ∷ []) t source to q s (first_of source) (walk_route g source to q w) in let l = h.0 in omega arith;
      },
      comes.size,
    )

-- a cell without a number is not reached
pub surveyed_none : (g : Floor) (source to : Cell) (t : List ℕ) → IsSurveyed g [] (source ∷ []) t → blocked ≤ value t (place g to) → (p : List Cell) → IsWalkBetween g source to p → ⊥
surveyed_none g source to t s b p w =
    let h = path_least g [] (source ∷ []) t source to p s (first_of source) (walk_route g source to p w) in
    let l = h.1 in
    omega arith

-- nor is a cell outside
pub outside_none : (g : Floor) (from to : Cell) → ((to.x < g.width) × (to.y < g.height) → ⊥) → (p : List Cell) → IsWalkBetween g from to p → ⊥
outside_none g from to out p w =
    let a = subst (IsPassable g) w.ends (w.walk.passable (last_index p)) in
    out (a.in_width, a.in_height)

-- nor the steps that are left of a path to a source
pub met_before : (g : Floor) (avoid sources : List Cell) (t : List ℕ) (from to : Cell) (p : List Cell) → IsSurveyed g avoid sources t → Contains sources to → IsRoute g from to avoid p → (m k : ℕ) → k + m ≡ last_index p → (value t (place g (at p k)) ≤ m) × (value t (place g (at p k)) < blocked)
met_before g avoid sources t from to p s c h zero k e =
    let at_end : at p k ≡ to = ap (at p) (let f : k ≡ last_index p = omega arith in f) ∙ h.walk.ends in
    let z : value t (place g (at p k)) ≡ 0 = (s.ground.zero (place g (at p k))).1 (record { cell = at p k; source = subst (Contains sources) (sym at_end) c; here = refl; allowed = route_allowed g from to avoid p h k }) in
    (omega arith, omega arith)
met_before g avoid sources t from to p s c h (suc m) k e =
    let after = met_before g avoid sources t from to p s c h m (k + 1) (omega arith) in
    let low = after.0 in
    let met = after.1 in
    elim (h.walk.walk.moves k) [
      | inl same ↦ (let z : value t (place g (at p k)) ≡ value t (place g (at p (k + 1))) = ap (λ x. value t (place g x)) same in (omega arith, omega arith))
      | inr b ↦ (let ne = s.ground.not_blocked (at p k) (route_allowed g from to avoid p h k) in
          let near = s.levels.onward (place g (at p (k + 1))) (place g (at p k)) met (adjacent_beside g (at p (k + 1)) (at p k) (adjacent_other (at p k) (at p (k + 1)) b)) ne in
          (omega arith, elim (cases_lt (value t (place g (at p k))) blocked) [ inl x ↦ x | inr x ↦ absurd (ne (omega arith)) ]))
    ]

pub path_to_least : (g : Floor) (avoid sources : List Cell) (t : List ℕ) (from to : Cell) (p : List Cell) → IsSurveyed g avoid sources t → Contains sources to → IsRoute g from to avoid p → (value t (place g from) ≤ last_index p) × (value t (place g from) < blocked)
path_to_least g avoid sources t from to p s c h =
    let P : Cell → Type 0 = λ x. (value t (place g x) ≤ last_index p) × (value t (place g x) < blocked) in
    subst P h.walk.starts (met_before g avoid sources t from to p s c h (last_index p) 0 (omega arith))
