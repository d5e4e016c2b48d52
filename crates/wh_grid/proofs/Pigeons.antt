-- no more places of a list are marked than it has marks
use Rattle.std.proofs.Common.{◌≡◌, ◌≢◌, ℕ, ◌+◌, ◌*◌, ◌/◌, ◌%◌, ◌<◌, ◌≤◌, ◌∙◌, ◌⊎◌, inl, inr, List, [], ◌∷◌, Bool, true, false, cond, Some, get_or, sym, refl, ap, arith}
use Prim.Native.Nat.{zero, suc}
use Rattle.std.specs.Prelude.{count_by, slice_get}
use Rattle.std.proofs.Math.ListN.{set}
use Rattle.std.proofs.lemmas.List.Sums.{sum_by-set}
use Rattle.std.proofs.lemmas.Nat.{div-mul-add, mod-mul-add}
use Rattle.std.proofs.lemmas.Bool.{cases_eq}
use Rattle.std.proofs.lemmas.Option.{slice_get_within, get_or_from_slice_get}
use Rattle.wh_grid.specs.declared.cell.Cell.{Cell}
use Rattle.wh_grid.specs.Grids.{Floor, IsPassable, passable_cells}

get-set_other : (xs : List Bool) (i j : ℕ) (y : Bool) → j ≢ i → slice_get (set xs i y) j ≡ slice_get xs j
get-set_other [] i j y ne = refl
get-set_other (x ∷ xs) zero zero y ne = absurd (ne refl)
get-set_other (x ∷ xs) zero (suc j) y ne = refl
get-set_other (x ∷ xs) (suc i) zero y ne = refl
get-set_other (x ∷ xs) (suc i) (suc j) y ne = get-set_other xs i j y (λ e. ne (ap suc e))

abbrev marked : List Bool → ℕ
marked marks = count_by (λ b. b) marks

-- a mark that is taken away
marked-unset : (marks : List Bool) (i : ℕ) → slice_get marks i ≡ Some true → marked (set marks i false) + 1 ≡ marked marks
marked-unset marks i is =
    let weigh : Bool → ℕ = λ b. cond b 1 0 in
    let h = sum_by-set weigh marks i false false (slice_get_within marks i true is) in
    let one : weigh (get_or marks i false) ≡ 1 = ap weigh (get_or_from_slice_get marks i true false is) in
    omega arith

-- this many different places, each of them marked
pub marked-least : (n : ℕ) (marks : List Bool) (place : ℕ → ℕ) → ((k : ℕ) → k < n → slice_get marks (place k) ≡ Some true) →
    ((i j : ℕ) → i < j → j < n → place i ≢ place j) → n ≤ marked marks
marked-least zero marks place is differ = omega arith
marked-least (suc n) marks place is differ =
    let rest = marked-least n (set marks (place n) false) place
    (λ k h. get-set_other marks (place n) (place k) false (differ k n h (omega arith)) ∙ is k (omega arith))
    (λ i j h l. differ i j h (omega arith)) in
    let less = marked-unset marks (place n) (is n (omega arith)) in
    omega arith

-- cells within the sides that have one place are one
place-one : (w : ℕ) (c d : Cell) → c.x < w → d.x < w → c.y * w + c.x ≡ d.y * w + d.x → c ≡ d
place-one w c d hc hd e =
    let y : c.y ≡ d.y = sym (div-mul-add c.y w c.x hc) ∙ ap (λ p. p / w) e ∙ div-mul-add d.y w d.x hd in
    let x : c.x ≡ d.x = sym (mod-mul-add c.y w c.x hc) ∙ ap (λ p. p % w) e ∙ mod-mul-add d.y w d.x hd in
    λ i. record { x = x i; y = y i }

-- there are no more passable cells that differ than the grid has
pub passable-most : (g : Floor) (f : ℕ → Cell) (n : ℕ) → ((k : ℕ) → k < n → IsPassable g (f k)) →
    ((i j : ℕ) → i < j → j < n → f i ≢ f j) → n ≤ passable_cells g
passable-most g f n passable differ =
    marked-least n g.walkable (λ k. (f k).y * g.width + (f k).x) (λ k h. (passable k h).is_walkable)
    (λ i j h l e. differ i j h l (place-one g.width (f i) (f j) ((passable i (omega arith)).in_width) ((passable j l).in_width) e))

pub cell_cases : (c d : Cell) → (c ≡ d) ⊎ (c ≢ d)
cell_cases c d = elim (cases_eq c.x d.x) [
  | inl x ↦ elim (cases_eq c.y d.y) [
    | inl y ↦ inl (λ i. record { x = x i; y = y i })
    | inr ne ↦ inr (λ e. ne (ap (λ (b : Cell). b.y) e))
  ]
  | inr ne ↦ inr (λ e. ne (ap (λ (b : Cell). b.x) e))
]
