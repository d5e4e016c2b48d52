-- down along falling distances
use Rattle.std.proofs.Common.{◌≡◌, ◌≢◌, ℕ, ◌+◌, ◌-◌, ◌*◌, ◌<◌, ◌≤◌, inl, inr, ◌∙◌, List, [], ◌∷◌, ◌++◌, get_or, refl, sym, ap, subst, arith}
use Rattle.std.proofs.lemmas.List.{length_push, get_or_default}
use Rattle.wh_grid.specs.declared.cell.Cell.{Cell}
use Rattle.wh_grid.specs.Grids.{Floor, IsPassable, IsAdjacent}
use Rattle.wh_field.specs.Tables.{value, blocked}
use Rattle.wh_field.specs.Places.{place, IsAllowed, IsFalling, IsNearer, IsDescent}
use Rattle.wh_path.specs.Paths.{last_index}
use Rattle.wh_field.specs.Distances.{IsRoute, IsLeastRoute}
use Rattle.wh_grid.proofs.Cells.{same_cell}
use Rattle.wh_field.proofs.Places.{place_one, next_row, row_least, row_most}
use Rattle.wh_field.proofs.Walks.{route_one, route_push, only_one}

-- the four cells beside an allowed one, where the table has a distance there
pub right_of : (g : Floor) (avoid sources : List Cell) (t : List ℕ) (c : Cell) (n : ℕ) → IsFalling g avoid sources t → IsPassable g c → n < blocked → value t (place g c + 1) ≡ n → IsNearer g avoid t c n (record { x = c.x + 1; y = c.y })
right_of g avoid sources t c n s p low e =
    let w = p.in_width in
    let there = s.ground.allowed (place g c + 1) (λ z. absurd (omega arith)) in
    let r : Cell = record { x = c.x + 1; y = c.y } in
    let u = there.allowed.passable.in_width in
    let here = there.here in
    let same : there.cell ≡ r = place_one g there.cell r (omega arith) (omega arith) (let z : place g there.cell ≡ (c.y + 1) * (g.width + 1) + (c.x + 1) = omega arith in z) in
    record {
      adjacent = inl (refl, inl refl);
      allowed = subst (IsAllowed g avoid) same there.allowed;
      near = ap (λ i. value t i) (let z : (c.y + 1) * (g.width + 1) + (c.x + 1) ≡ place g c + 1 = omega arith in z) ∙ e;
    }

pub left_of : (g : Floor) (avoid sources : List Cell) (t : List ℕ) (c : Cell) (n : ℕ) → IsFalling g avoid sources t → IsPassable g c → n < blocked → value t (place g c - 1) ≡ n → (0 < c.x) × IsNearer g avoid t c n (record { x = c.x - 1; y = c.y })
left_of g avoid sources t c n s p low e =
    let w = p.in_width in
    let least = row_least c.y (g.width + 1) in
    let there = s.ground.allowed (place g c - 1) (λ z. absurd (omega arith)) in
    let u = there.allowed.passable.in_width in
    let here = there.here in
    let b : Cell = record { x = there.cell.x + 1; y = there.cell.y } in
    let beside : b ≡ c = place_one g b c (omega arith) (omega arith) (let z : (there.cell.y + 1) * (g.width + 1) + (there.cell.x + 1) ≡ place g c = omega arith in z) in
    let ex : there.cell.x + 1 ≡ c.x = ap (λ (d : Cell). d.x) beside in
    let ey : there.cell.y ≡ c.y = ap (λ (d : Cell). d.y) beside in
    let r : Cell = record { x = c.x - 1; y = c.y } in
    let same : there.cell ≡ r = same_cell there.cell r (omega arith) ey in
    let around : IsAdjacent c r = inl (refl, inr (omega arith)) in (
      omega arith,
      record {
        adjacent = around;
        allowed = subst (IsAllowed g avoid) same there.allowed;
        near = ap (λ (d : Cell). value t (place g d)) (sym same) ∙ ap (λ i. value t i) here ∙ e;
      },
    )

pub below_of : (g : Floor) (avoid sources : List Cell) (t : List ℕ) (c : Cell) (n : ℕ) → IsFalling g avoid sources t → IsPassable g c → n < blocked → value t (place g c + (g.width + 1)) ≡ n → (c.y + 1 < g.height) × IsNearer g avoid t c n (record { x = c.x; y = c.y + 1 })
below_of g avoid sources t c n s p low e =
    let w = p.in_width in
    let there = s.ground.allowed (place g c + (g.width + 1)) (λ z. absurd (omega arith)) in
    let r : Cell = record { x = c.x; y = c.y + 1 } in
    let u = there.allowed.passable.in_width in
    let v = there.allowed.passable.in_height in
    let here = there.here in
    let row = next_row c.y (g.width + 1) in
    let same : there.cell ≡ r = place_one g there.cell r (omega arith) (omega arith) (let z : place g there.cell ≡ (c.y + 1 + 1) * (g.width + 1) + c.x = omega arith in z) in
    let ey : there.cell.y ≡ c.y + 1 = ap (λ (d : Cell). d.y) same in (
      omega arith,
      record {
        adjacent = inr (refl, inl refl);
        allowed = subst (IsAllowed g avoid) same there.allowed;
        near = ap (λ (d : Cell). value t (place g d)) (sym same) ∙ ap (λ i. value t i) here ∙ e;
      },
    )

pub above_of : (g : Floor) (avoid sources : List Cell) (t : List ℕ) (c : Cell) (n : ℕ) → IsFalling g avoid sources t → IsPassable g c → n < blocked → value t (place g c - (g.width + 1)) ≡ n → (0 < c.y) × IsNearer g avoid t c n (record { x = c.x; y = c.y - 1 })
above_of g avoid sources t c n s p low e =
    let w = p.in_width in
    let least = row_least c.y (g.width + 1) in
    let there = s.ground.allowed (place g c - (g.width + 1)) (λ z. absurd (omega arith)) in
    let u = there.allowed.passable.in_width in
    let here = there.here in
    let row = next_row there.cell.y (g.width + 1) in
    let b : Cell = record { x = there.cell.x; y = there.cell.y + 1 } in
    let beside : b ≡ c = place_one g b c (omega arith) (omega arith) (let z : (there.cell.y + 1 + 1) * (g.width + 1) + there.cell.x ≡ place g c = omega arith in z) in
    let ex : there.cell.x ≡ c.x = ap (λ (d : Cell). d.x) beside in
    let ey : there.cell.y + 1 ≡ c.y = ap (λ (d : Cell). d.y) beside in
    let r : Cell = record { x = c.x; y = c.y - 1 } in
    let same : there.cell ≡ r = same_cell there.cell r ex (omega arith) in
    let around : IsAdjacent c r = inr (refl, inr (omega arith)) in (
      omega arith,
      record {
        adjacent = around;
        allowed = subst (IsAllowed g avoid) same there.allowed;
        near = ap (λ (d : Cell). value t (place g d)) (sym same) ∙ ap (λ i. value t i) here ∙ e;
      },
    )

-- what the code reads, at the width that it has read
pub read_at : (g : Floor) (avoid sources : List Cell) (t : List ℕ) (c : Cell) (i j n : ℕ) → IsFalling g avoid sources t → IsPassable g c → i ≡ j → j ≤ place g c + (g.width + 1) → get_or t i 0 ≡ n → value t j ≡ n
read_at g avoid sources t c i j n s p same few e =
    let size = s.ground.size in
    let most = row_most g c p in
    get_or_default t j 4294967294 0 (omega arith) ∙ ap (λ k. get_or t k 0) (sym same) ∙ e

pub read_not : (g : Floor) (avoid sources : List Cell) (t : List ℕ) (c : Cell) (i j n : ℕ) → IsFalling g avoid sources t → IsPassable g c → i ≡ j → j ≤ place g c + (g.width + 1) → get_or t i 0 ≢ n → value t j ≢ n
read_not g avoid sources t c i j n s p same few ne e =
    let size = s.ground.size in
    let most = row_most g c p in
    ne (ap (λ k. get_or t k 0) same ∙ get_or_default t j 0 4294967294 (omega arith) ∙ e)

-- where three of the four have another distance, the fourth has it
pub only_above : (g : Floor) (avoid sources : List Cell) (t : List ℕ) (c : Cell) (n : ℕ) → IsFalling g avoid sources t → n + 1 < blocked → value t (place g c) ≡ n + 1
    → value t (place g c + 1) ≢ n → value t (place g c - 1) ≢ n → value t (place g c + (g.width + 1)) ≢ n → value t (place g c - (g.width + 1)) ≡ n
only_above g avoid sources t c n s low e right left down =
    let back = s.back (place g c) n low e in
    let P : ℕ → Type 0 = λ i. value t i ≡ n in
    elim back.1 [
      | inl (inl f) ↦ absurd (left (subst P (let z : back.0 ≡ place g c - 1 = omega arith in z) back.2))
      | inl (inr f) ↦ absurd (right (subst P (sym f) back.2))
      | inr (inl f) ↦ subst P (let z : back.0 ≡ place g c - (g.width + 1) = omega arith in z) back.2
      | inr (inr f) ↦ absurd (down (subst P (sym f) back.2))
    ]

pub descent_start : (g : Floor) (avoid : List Cell) (t : List ℕ) (from : Cell) (n : ℕ) → IsAllowed g avoid from → value t (place g from) ≡ n → IsDescent g avoid t from from 0 n (from ∷ [])
descent_start g avoid t from n a e = record { route = route_one g avoid from a; size = refl; allowed = a; near = e }

pub descent_step : (g : Floor) (avoid : List Cell) (t : List ℕ) (from b c : Cell) (k left n : ℕ) (p : List Cell) → IsDescent g avoid t from b k left p → IsNearer g avoid t b n c → IsDescent g avoid t from c (k + 1) n (p ++ c ∷ [])
descent_step g avoid t from b c k left n p d h =
    record {
      route = route_push g avoid from b c p d.route h.allowed (inr h.adjacent);
      size = omega (arith, length_push p c, d.size);
      allowed = h.allowed;
      near = h.near;
    }

-- at distance 0 it is at the end
pub descent_end : (g : Floor) (avoid : List Cell) (t : List ℕ) (from to c : Cell) (k : ℕ) (p : List Cell) → IsFalling g avoid (to ∷ []) t → IsDescent g avoid t from c k 0 p → c ≡ to
descent_end g avoid t from to c k p s d =
    let z = (s.ground.zero (place g c)).0 d.near in
    let v = z.allowed.passable.in_width in
    let w = d.allowed.passable.in_width in
    sym (only_one to z.cell z.source ∙ place_one g z.cell c (omega arith) (omega arith) z.here)

-- the walk down is a shortest route, if no route has fewer steps
pub descent_route : (g : Floor) (avoid : List Cell) (t : List ℕ) (from to : Cell) (n : ℕ) (p : List Cell) → ((q : List Cell) → IsRoute g from to avoid q → n ≤ last_index q) →
    IsDescent g avoid t from to n 0 p → IsLeastRoute g from to avoid p
descent_route g avoid t from to n p few d =
    let size = d.size in
    record { route = d.route; least = λ q r. (let l = few q r in omega arith) }

pub no_route_outside : (g : Floor) (avoid : List Cell) (from to : Cell) → ((from.x < g.width) × (from.y < g.height) → ⊥) → (q : List Cell) → IsRoute g from to avoid q → ⊥
no_route_outside g avoid from to out q r =
    let a = subst (IsPassable g) r.walk.starts (r.walk.walk.passable 0) in
    out (a.in_width, a.in_height)

-- where the start has a distance it is allowed
pub start_allowed : (g : Floor) (avoid sources : List Cell) (t : List ℕ) (c : Cell) → IsFalling g avoid sources t → c.x < g.width → value t (place g c) < blocked → IsAllowed g avoid c
start_allowed g avoid sources t c s w low =
    let there = s.ground.allowed (place g c) (λ z. absurd (omega arith)) in
    let v = there.allowed.passable.in_width in
    subst (IsAllowed g avoid) (place_one g there.cell c (omega arith) (omega arith) there.here) there.allowed
