-- What the parts of a line's code find is what the line says.
use Rattle.std.proofs.Common.{◌≡◌, ℕ, suc, zero, ◌<◌, ◌+◌, ◌*◌, Bool, true, false, ◌&&◌, if◌then◌else◌, eqb, Some, Ok, List, [], ◌∷◌, ◌++◌, length, get_or, map, refl, ap, sym, ◌∙◌, arith}
use Rattle.std.specs.List.{list_any}
use Rattle.std.proofs.Math.Dec.{ltb}
use Rattle.std.proofs.lemmas.Bool.{lt-ltb, ltb-true, false_from_ne_true}
use Rattle.std.proofs.lemmas.List.{map-append}
use Rattle.std.proofs.lemmas.Option.{slice_get-get_or, get_or_from_slice_get}
use Rattle.wh_grid.specs.declared.cell.Cell.{Cell}
use Rattle.wh_grid.specs.Grids.{Floor, IsPassable}
use Rattle.wh_points.specs.declared.points.Point.{Point}
use Rattle.wh_points.specs.Points.{Layout}
use Rattle.wh_points.specs.PointLines.{is_open, has_cell, with_agent, starts_at}
use Rattle.wh_points.proofs.Lookups.{list_any-map}

pub and_three : (a b c : Bool) → (a && b && c) ≡ true → (a ≡ true) × (b ≡ true) × (c ≡ true)
and_three true true true h = (refl, refl, refl)
and_three true true false h = absurd cc
and_three true false c h = absurd cc
and_three false b c h = absurd cc

in_range : (xs : List Bool) (k : ℕ) → get_or xs k false ≡ true → k < length xs
in_range [] k h = absurd cc
in_range (x ∷ xs) zero h = omega arith
in_range (x ∷ xs) (suc k) h = let r = in_range xs k h in omega arith

-- a place is open where its cell may be walked on
pub open_passable : (g : Floor) (x y : ℕ) → is_open g x y ≡ true → IsPassable g (record { x = x; y = y })
open_passable g x y h =
    let three = and_three (ltb x g.width) (ltb y g.height) (get_or g.walkable (y * g.width + x) false) h in
    record {
      in_width = ltb-true _ _ three.0;
      in_height = ltb-true _ _ three.1;
      is_walkable = slice_get-get_or g.walkable (y * g.width + x) false (in_range g.walkable (y * g.width + x) three.2) ∙ ap (λ (b : Bool). Some b) three.2;
    }

pub passable_open : (g : Floor) (x y : ℕ) → IsPassable g (record { x = x; y = y }) → is_open g x y ≡ true
passable_open g x y p =
    let a = lt-ltb x g.width p.in_width in
    let b = lt-ltb y g.height p.in_height in
    let c = get_or_from_slice_get g.walkable (y * g.width + x) true false p.is_walkable in
    rw (a, b, c) refl

pub not_open : (g : Floor) (x y : ℕ) → (IsPassable g (record { x = x; y = y }) → ⊥) → is_open g x y ≡ false
not_open g x y none = false_from_ne_true (is_open g x y) (λ h. none (open_passable g x y h))

pub agent_started : (layout new : Layout) (n : ℕ) → list_any (λ m. eqb m n) layout.agents ≡ false → length layout.agents < 256 → new ≡ with_agent layout n → starts_at layout (Some n) ≡ Ok new
agent_started layout new n fresh room e = rw (fresh, lt-ltb (length layout.agents) 256 room) (ap (λ (l : Layout). Ok l) (sym e))

-- a place among the cells is the place of the point
pub has_cell-among : (cell : Cell) (cells : List Cell) (points : List Point) → cells ≡ map (λ p. p.cell) points
    → list_any (λ d. eqb cell.x d.x && eqb cell.y d.y) cells ≡ has_cell cell.x cell.y points
has_cell-among cell cells points e =
    ap (λ (cs : List Cell). list_any (λ d. eqb cell.x d.x && eqb cell.y d.y) cs) e ∙ list_any-map (λ (d : Cell). eqb cell.x d.x && eqb cell.y d.y) (λ (p : Point). p.cell) points

-- a new cell goes last, as its point does
pub cells_pushed : (cells new : List Cell) (points : List Point) (point : Point) → cells ≡ map (λ p. p.cell) points
    → new ≡ (if list_any (λ d. eqb point.cell.x d.x && eqb point.cell.y d.y) cells then cells else cells ++ point.cell ∷ []) → has_cell point.cell.x point.cell.y points ≡ false
    → new ≡ map (λ p. p.cell) (points ++ point ∷ [])
cells_pushed cells new points point e n none =
    n ∙ ap (λ (b : Bool). if b then cells else cells ++ point.cell ∷ []) (has_cell-among point.cell cells points e ∙ none)
    ∙ ap (λ (cs : List Cell). cs ++ point.cell ∷ []) e ∙ sym (map-append (λ (p : Point). p.cell) points (point ∷ []))
