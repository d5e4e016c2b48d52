-- the places of cells
use Rattle.std.proofs.Common.{◌≡◌, ℕ, ◌+◌, ◌*◌, ◌<◌, ◌≤◌, ◌⊎◌, inl, inr, ◌∙◌, List, [], ◌∷◌, ◌++◌, length, length-append, get_or, Bool, true, false, sym, ap, subst, arith}
use Rattle.std.proofs.lemmas.Bool.{cases_lt}
use Rattle.std.proofs.lemmas.Nat.{mul-add-lt, same_from_place}
use Rattle.std.proofs.lemmas.List.{get_or_past, get_or_append_left}
use Rattle.std.proofs.Math.Seq.{get_or-append_seam}
use Rattle.std.specs.Prelude.{Some, slice_get}
use Rattle.std.proofs.lemmas.Option.{slice_get-get_or}
use Rattle.std.proofs.Math.Nat.{mul_comm, mul-add, mul-one}
use Rattle.wh_grid.specs.declared.cell.Cell.{Cell}
use Rattle.wh_grid.proofs.Cells.{same_cell}
use Rattle.wh_field.proofs.Tables.{Contains-none}
use Rattle.wh_grid.specs.Grids.{Floor, IsPassable}
use Rattle.wh_field.specs.Tables.{value, blocked, unseen}
use Rattle.wh_field.specs.Places.{place, IsAllowedAt, IsOpenAt, IsOpenBelow}

-- one place has one cell
pub place_one : (g : Floor) (c d : Cell) → c.x ≤ g.width → d.x ≤ g.width → place g c ≡ place g d → c ≡ d
place_one g c d p q e =
    let s = same_from_place (c.y + 1) c.x (d.y + 1) d.x (g.width + 1) (omega arith) (omega arith) e in
    same_cell c d s.1 (let a = s.0 in omega arith)

-- the row after a row
pub next_row : (y s : ℕ) → (y + 1 + 1) * s ≡ (y + 1) * s + s
next_row y s = mul_comm (y + 1 + 1) s ∙ mul-add s (y + 1) 1 ∙ omega (arith, mul_comm s (y + 1), mul-one s)

pub row_least : (y s : ℕ) → s ≤ (y + 1) * s
row_least y s = let e = mul_comm (y + 1) s in let f = mul-add s y 1 in let g = mul-one s in omega arith

-- the last row and those before
pub row_ends : (g : Floor) (c : Cell) → c.x < g.width → c.y < g.height → place g c + (g.width + 1) < (g.width + 1) * (g.height + 2)
row_ends g c wx wy =
    let e = next_row c.y (g.width + 1) in
    let f = mul-add-lt (c.y + 1 + 1) (g.width + 1) c.x (g.height + 2) (omega arith) (omega arith) in
    omega arith

pub row_most : (g : Floor) (c : Cell) → IsPassable g c → place g c + (g.width + 1) < (g.width + 1) * (g.height + 2)
row_most g c w = row_ends g c w.in_width w.in_height

-- one more entry
pub open_next : (g : Floor) (n m : ℕ) (t : List ℕ) (v : ℕ) → IsOpenBelow g n t → m ≡ n + 1
    → ((v ≡ blocked) × (IsAllowedAt g [] n → ⊥)) ⊎ ((v ≡ unseen) × IsAllowedAt g [] n) → IsOpenBelow g m (t ++ v ∷ [])
open_next g n m t v o e here =
    let size = o.size in
    let new : value (t ++ v ∷ []) n ≡ v = ap (value (t ++ v ∷ [])) (sym size) ∙ get_or-append_seam t v [] 4294967294 in
    let others : (i : ℕ) → i < n → value (t ++ v ∷ []) i ≡ value t i = λ i h. get_or_append_left t (v ∷ []) 4294967294 i (omega arith) in
    record {
      size = length-append t (v ∷ []) ∙ omega arith;
      each = λ i h. elim (cases_lt i n) [
        | inl less ↦ elim (o.each i less) [ inl a ↦ inl (others i less ∙ a.0, a.1) | inr a ↦ inr (others i less ∙ a.0, a.1) ]
        | inr more ↦ subst (IsOpenAt g [] (t ++ v ∷ [])) (let same : n ≡ i = omega arith in same) (elim here [ inl a ↦ inl (new ∙ a.0, a.1) | inr a ↦ inr (new ∙ a.0, a.1) ])
      ];
    }

-- the place that closes a row has no cell
pub none_beside : (g : Floor) (avoid : List Cell) (y i : ℕ) → i ≡ (y + 1) * (g.width + 1) + g.width → IsAllowedAt g avoid i → ⊥
none_beside g avoid y i e a =
    let here = a.here in
    let w = a.allowed.passable.in_width in
    let d : Cell = record { x = g.width; y = y } in
    let same : a.cell ≡ d = place_one g a.cell d (omega arith) (omega arith) (here ∙ e) in
    let x : a.cell.x ≡ g.width = ap (λ (c : Cell). c.x) same in
    omega arith

-- the entry of a cell
pub entry_open : (g : Floor) (c : Cell) (n : ℕ) → n ≡ place g c → IsPassable g c → IsAllowedAt g [] n
entry_open g c n e p = record { cell = c; here = sym e; allowed = record { passable = p; apart = Contains-none c } }

pub entry_blocked : (g : Floor) (c : Cell) (n : ℕ) → n ≡ place g c → c.x < g.width → ¬ IsPassable g c → IsAllowedAt g [] n → ⊥
entry_blocked g c n e w p a =
    let v = a.allowed.passable.in_width in
    p (subst (IsPassable g) (place_one g a.cell c (omega arith) (omega arith) (a.here ∙ e)) a.allowed.passable)

-- a mark that is set is there
pub true_there : (marks : List Bool) (i : ℕ) → get_or marks i false ≡ true → slice_get marks i ≡ Some true
true_there marks i is = elim (cases_lt i (length marks)) [
  | inl less ↦ slice_get-get_or marks i false less ∙ ap Some is
  | inr more ↦ absurd (let past = get_or_past marks i false more in cc)
]
