-- A layout with one thing more.
use Rattle.std.proofs.Common.{◌≡◌, ◌≢◌, ℕ, suc, zero, ◌<◌, ◌+◌, ◌⊎◌, inl, inr, Bool, true, false, cond, ◌&&◌, if◌then◌else◌, eqb, List, [], ◌∷◌, ◌++◌, length, get_or, map, refl, ap, sym, ◌∙◌, arith, length-append}
use Rattle.std.specs.List.{list_any}
use Rattle.std.specs.Prelude.{count_by}
use Rattle.std.specs.Str.{bytes_eq}
use Rattle.std.specs.Cmp.Lexicographic.{bytes_decides}
use Rattle.std.proofs.lemmas.Bool.{eq-eqb, or_parts}
use Rattle.std.proofs.lemmas.List.{map-append}
use Rattle.std.proofs.lemmas.List.Elements.{All-push}
use Rattle.std.proofs.lemmas.List.Sums.{sum_by-append}
use Rattle.wh_grid.specs.declared.cell.Cell.{Cell}
use Rattle.wh_points.specs.declared.points.Point.{Point}
use Rattle.wh_points.specs.Points.{Layout, point_at, is_parking}
use Rattle.wh_points.specs.Layouts.{AreApart}
use Rattle.wh_points.specs.PointLines.{has_name, has_cell, with_point, with_agent}
use Rattle.wh_points.proofs.Lookups.{list_any-map}

-- where none passes, each fails
pub list_any-false : {X : Type 0} (p : X → Bool) (xs : List X) → list_any p xs ≡ false → (i : ℕ) (d : X) → i < length xs → p (get_or xs i d) ≡ false
list_any-false p [] h i d below = absurd (omega arith)
list_any-false p (x ∷ xs) h zero d below = (or_parts (p x) (list_any p xs) h).0
list_any-false p (x ∷ xs) h (suc i) d below = list_any-false p xs (or_parts (p x) (list_any p xs) h).1 i d (omega arith)

last_at : {X : Type 0} (xs : List X) (x d : X) (i : ℕ) → i < length (xs ++ x ∷ []) → ((i < length xs) × (get_or (xs ++ x ∷ []) i d ≡ get_or xs i d)) ⊎ ((i ≡ length xs) × (get_or (xs ++ x ∷ []) i d ≡ x))
last_at [] x d zero below = inr (refl, refl)
last_at [] x d (suc i) below = absurd (omega arith)
last_at (y ∷ xs) x d zero below = inl (omega arith, refl)
last_at (y ∷ xs) x d (suc i) below = elim (last_at xs x d i (omega arith)) [
  | inl old ↦ inl ((let h = old.0 in omega arith), old.1)
  | inr new ↦ inr ((let h = new.0 in omega arith), new.1)
]

-- what differs still differs after one more that differs from each
pub apart_push : {X B : Type 0} (f : X → B) (xs : List X) (x d : X)
    → ((i j : ℕ) → i < length xs → j < length xs → i ≢ j → f (get_or xs i d) ≢ f (get_or xs j d))
    → ((i : ℕ) → i < length xs → f (get_or xs i d) ≢ f x)
    → (i j : ℕ) → i < length (xs ++ x ∷ []) → j < length (xs ++ x ∷ []) → i ≢ j → f (get_or (xs ++ x ∷ []) i d) ≢ f (get_or (xs ++ x ∷ []) j d)
apart_push {B = B} f xs x d old new i j hi hj ne e = elim (last_at xs x d i hi) [
  | inl a ↦ elim (last_at xs x d j hj) [
    | inl b ↦ old i j a.0 b.0 ne (sym (ap f a.1) ∙ e ∙ ap f b.1)
    | inr b ↦ new i a.0 (sym (ap f a.1) ∙ e ∙ ap f b.1)
  ]
  | inr a ↦ elim (last_at xs x d j hj) [
    | inl b ↦ new j b.0 (sym (ap f b.1) ∙ sym e ∙ ap f a.1)
    | inr b ↦ ne (a.0 ∙ sym b.0)
  ]
]

pub new_name : (points : List Point) (point : Point) → has_name point.name points ≡ false → (i : ℕ) → i < length points → (point_at points i).name ≢ point.name
new_name points point h i below e =
    let fails : bytes_eq point.name (point_at points i).name ≡ false = list_any-false (λ p. bytes_eq point.name p.name) points h i _ below in
    let passes : bytes_eq point.name (point_at points i).name ≡ true = (bytes_decides point.name (point_at points i).name).1 (sym e) in
    absurd cc

pub new_cell : (points : List Point) (point : Point) → has_cell point.cell.x point.cell.y points ≡ false → (i : ℕ) → i < length points → (point_at points i).cell ≢ point.cell
new_cell points point h i below e =
    let x : eqb point.cell.x (point_at points i).cell.x ≡ true = eq-eqb _ _ (ap (λ (c : Cell). c.x) (sym e)) in
    let y : eqb point.cell.y (point_at points i).cell.y ≡ true = eq-eqb _ _ (ap (λ (c : Cell). c.y) (sym e)) in
    let fails : (eqb point.cell.x (point_at points i).cell.x && eqb point.cell.y (point_at points i).cell.y) ≡ false = list_any-false (λ p. eqb point.cell.x p.cell.x && eqb point.cell.y p.cell.y) points h i _ below in
    let passes : (eqb point.cell.x (point_at points i).cell.x && eqb point.cell.y (point_at points i).cell.y) ≡ true = rw (x, y) refl in
    absurd cc

pub longer : {X : Type 0} (xs : List X) (x : X) → length (xs ++ x ∷ []) ≡ length xs + 1
longer xs x = simp length-append (omega arith)

pub apart_point : (layout : Layout) (point : Point) → AreApart layout → has_name point.name layout.points ≡ false → has_cell point.cell.x point.cell.y layout.points ≡ false → AreApart (with_point layout point)
apart_point layout point a name cell = record {
  names = apart_push (λ (p : Point). p.name) layout.points point _ a.names (new_name layout.points point name);
  cells = apart_push (λ (p : Point). p.cell) layout.points point _ a.cells (new_cell layout.points point cell);
  known = λ i n below. (let h = a.known i n below in let l = longer layout.points point in omega arith);
  distinct = a.distinct;
}

pub apart_agent : (layout : Layout) (n : ℕ) → AreApart layout → n < length layout.points → list_any (λ m. eqb m n) layout.agents ≡ false → AreApart (with_agent layout n)
apart_agent layout n a known new = record {
  names = a.names;
  cells = a.cells;
  known = All-push (λ m. m < length layout.points) layout.agents n a.known known;
  distinct = apart_push (λ (m : ℕ). m) layout.agents n 0 a.distinct (λ i below e.
      let fails : eqb (get_or layout.agents i 0) n ≡ false = list_any-false (λ m. eqb m n) layout.agents new i 0 below in
      let passes : eqb (get_or layout.agents i 0) n ≡ true = eq-eqb _ _ e in
      absurd cc);
}

-- a new name goes last, as its point does
pub keys_pushed : (keys new : List (List ℕ)) (points : List Point) (point : Point) (name : List ℕ) → keys ≡ map (λ p. p.name) points → name ≡ point.name
    → new ≡ (if list_any (bytes_eq name) keys then keys else keys ++ name ∷ []) → has_name point.name points ≡ false → new ≡ map (λ p. p.name) (points ++ point ∷ [])
keys_pushed keys new points point name k e n none =
    let absent : list_any (bytes_eq name) keys ≡ false = ap (λ ks. list_any (bytes_eq name) ks) k ∙ list_any-map (bytes_eq name) (λ (p : Point). p.name) points ∙ ap (λ w. has_name w points) e ∙ none in
    n ∙ ap (λ (b : Bool). if b then keys else keys ++ name ∷ []) absent ∙ (λ i. k i ++ e i ∷ []) ∙ sym (map-append (λ (p : Point). p.name) points (point ∷ []))

pub parkings_pushed : (points : List Point) (point : Point) (n w : ℕ) → n ≡ count_by (λ p. is_parking p.kind) points → w ≡ cond (is_parking point.kind) 1 0
    → n + w ≡ count_by (λ p. is_parking p.kind) (points ++ point ∷ [])
parkings_pushed points point n w e f =
    let weigh : Point → ℕ = λ p. cond (is_parking p.kind) 1 0 in
    let more = sum_by-append weigh points (point ∷ []) in
    (λ i. e i + f i) ∙ (let one : cond (is_parking point.kind) 1 0 ≡ count_by (λ p. is_parking p.kind) (point ∷ []) = omega arith in ap (λ (m : ℕ). count_by (λ p. is_parking p.kind) points + m) one) ∙ sym more
