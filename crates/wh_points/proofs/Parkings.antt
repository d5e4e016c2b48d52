-- more parkings than cells leave a parking free
use Rattle.std.proofs.Common.{◌≡◌, ◌≢◌, ℕ, ◌+◌, ◌<◌, ◌∙◌, ◌⊎◌, inl, inr, List, [], ◌∷◌, cond, length, get_or, sym, refl, ap, arith}
use Prim.Native.Nat.{zero, suc}
use Rattle.std.specs.Prelude.{All, Contains, remove, count_by}
use Rattle.std.proofs.lemmas.Bool.{cases_eq}
use Rattle.std.proofs.lemmas.List.{get_or_default}
use Rattle.std.proofs.lemmas.List.Edits.{length-remove}
use Rattle.std.proofs.lemmas.List.Sums.{sum_by-cons}
use Rattle.wh_grid.specs.declared.cell.Cell.{Cell}
use Rattle.wh_points.specs.declared.points.Kind.{Kind}
use Rattle.wh_points.specs.declared.points.Point.{Point}
use Rattle.wh_points.specs.Points.{is_parking, point_at}
use Rattle.wh_grid.proofs.Pigeons.{cell_cases}
use Rattle.wh_grid.proofs.Removed.{all_removed-at}

contains-tail : (d : Cell) (cells : List Cell) (c : Cell) → d ≢ c → (Contains cells c → ⊥) → (k : ℕ) → k < length (d ∷ cells) → get_or (d ∷ cells) k c ≡ c → ⊥
contains-tail d cells c ne none zero h e = ne e
contains-tail d cells c ne none (suc k) h e = none (k, omega arith, e)

pub contains_cases : (cells : List Cell) (c : Cell) → Contains cells c ⊎ (Contains cells c → ⊥)
contains_cases [] c = inr (λ has. absurd (let h = has.1 in omega arith))
contains_cases (d ∷ cells) c = elim (cell_cases d c) [
  | inl e ↦ inl (0, omega arith, e)
  | inr ne ↦ elim (contains_cases cells c) [
    | inl has ↦ inl (suc has.0, (let h = has.1 in omega arith), has.2)
    | inr none ↦ inr (λ has. contains-tail d cells c ne none has.0 has.1 has.2)
  ]
]

pub kind_cases : (k : Kind) → (k ≡ Kind.Station) ⊎ (k ≡ Kind.Parking)
kind_cases Kind.Station = inl refl
kind_cases Kind.Parking = inr refl

abbrev Differ : List Point → Type 0
Differ ps = (i j : ℕ) → i < length ps → j < length ps → i ≢ j → (point_at ps i).cell ≢ (point_at ps j).cell

abbrev count : List Point → ℕ
count ps = count_by (λ point. is_parking point.kind) ps

abbrev FreeParking : List Point → List Cell → Type 0
FreeParking ps cells = (i : ℕ) × (i < length ps) × ((point_at ps i).kind ≡ Kind.Parking) × (Contains cells (point_at ps i).cell → ⊥)

differ-tail : (p : Point) (ps : List Point) → Differ (p ∷ ps) → Differ ps
differ-tail p ps differ i j hi hj ne = differ (suc i) (suc j) (omega arith) (omega arith) (λ e. ne (omega arith))

count-cons : (p : Point) (ps : List Point) (w : ℕ) → cond (is_parking p.kind) 1 0 ≡ w → count (p ∷ ps) ≡ w + count ps
count-cons p ps w e =
    let weigh : Point → ℕ = λ point. cond (is_parking point.kind) 1 0 in
    sum_by-cons weigh p ps ∙ ap (λ n. n + count ps) e

-- a cell that is another than the one taken away stays
removed-stays : (cells : List Cell) (m : ℕ) (c x : Cell) → get_or cells m c ≡ c → m < length cells → x ≢ c → (Contains (remove cells m) x → ⊥) → Contains cells x → ⊥
removed-stays cells m c x is within ne none has = elim (cases_eq has.0 m) [
  | inl e ↦
      ne (sym has.2 ∙ get_or_default cells has.0 x c has.1 ∙ ap (λ k. get_or cells k c) e ∙ is)
  | inr apart ↦
      let P : Cell → Type 0 = λ y. y ≢ x in
      let all : All P (remove cells m) = λ k d h e. none (k, h, get_or_default (remove cells m) k x d h ∙ e) in
      all_removed-at P cells m has.0 x all has.1 apart has.2
]

pub free_parking : (ps : List Point) (cells : List Cell) → Differ ps → length cells < count ps → FreeParking ps cells
free_parking [] cells differ more = absurd (omega arith)
free_parking (p ∷ ps) cells differ more = elim (kind_cases p.kind) [
  | inl station ↦
      let e = count-cons p ps 0 (ap (λ k. cond (is_parking k) 1 0) station) in
      let rest = free_parking ps cells (differ-tail p ps differ) (omega arith) in
      (suc rest.0, (let h = rest.1 in omega arith), rest.2, rest.3)
  | inr parking ↦ elim (contains_cases cells p.cell) [
    | inr none ↦ (0, omega arith, parking, none)
    | inl has ↦
        let e = count-cons p ps 1 (ap (λ k. cond (is_parking k) 1 0) parking) in
        let size = length-remove cells has.0 has.1 in
        let rest = free_parking ps (remove cells has.0) (differ-tail p ps differ) (omega arith) in
        let other : (point_at ps rest.0).cell ≢ p.cell = differ (suc rest.0) 0 (let h = rest.1 in omega arith) (omega arith) (λ z. omega arith) in
        (suc rest.0, (let h = rest.1 in omega arith), rest.2, removed-stays cells has.0 p.cell (point_at ps rest.0).cell has.2 has.1 other rest.3)
  ]
]
