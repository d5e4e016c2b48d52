-- the cells of stations, found one by one
use Rattle.std.proofs.Common.{◌≡◌, ℕ, ◌+◌, ◌<◌, ◌≤◌, ◌∙◌, ◌⊎◌, inl, inr, List, [], ◌∷◌, ◌++◌, Bool, true, false, if◌then◌else◌, length, take, get_or, sym, subst, refl, ap, arith}
use Rattle.std.specs.Prelude.{◌↔◌, Contains}
use Rattle.std.specs.List.{list_any}
use Rattle.std.proofs.lemmas.List.{take_more, take_all}
use Rattle.std.proofs.lemmas.List.Elements.{Contains-push, Contains-push_cases, Contains-append_left}
use Rattle.std.proofs.lemmas.Map.Views.{Contains-from_any}
use Rattle.wh_grid.specs.declared.cell.Cell.{Cell}
use Rattle.wh_grid.specs.Cells.{is_cell}
use Rattle.wh_grid.proofs.Cells.{is_cell-same}
use Rattle.wh_points.specs.declared.points.Point.{Point}
use Rattle.wh_points.specs.declared.points.Kind.{Kind}
use Rattle.wh_stand.specs.StationCells.{AreStations}

-- a cell is put in
inserted-by : (b : Bool) (cells : List Cell) (new : Cell) → list_any (is_cell new) cells ≡ b → (cell : Cell) →
    Contains (if b then cells else cells ++ new ∷ []) cell ↔ (Contains cells cell ⊎ (cell ≡ new))
inserted-by true cells new e cell = (
  λ has. inl has,
  λ has. elim has [
    | inl old ↦ old
    | inr same ↦ subst (λ c. Contains cells c) (sym same) (Contains-from_any is_cell-same new cells e)
  ],
)
inserted-by false cells new e cell = (
  λ has. elim (Contains-push_cases cells new cell has) [ inl old ↦ inl old | inr same ↦ inr (sym same) ],
  λ has. elim has [
    | inl old ↦ Contains-append_left cells (new ∷ []) cell old
    | inr same ↦ subst (λ c. Contains (cells ++ new ∷ []) c) (sym same) (Contains-push cells new)
  ],
)

pub inserted : (cells after : List Cell) (new : Cell) → after ≡ (if list_any (is_cell new) cells then cells else cells ++ new ∷ []) → (cell : Cell) →
    Contains after cell ↔ (Contains cells cell ⊎ (cell ≡ new))
inserted cells after new e cell =
    subst (λ cs. Contains cs cell ↔ (Contains cells cell ⊎ (cell ≡ new))) (sym e) (inserted-by (list_any (is_cell new) cells) cells new refl cell)

kind-cases : (kind : Kind) → (kind ≡ Kind.Station) ⊎ (kind ≡ Kind.Parking)
kind-cases Kind.Station = inl refl
kind-cases Kind.Parking = inr refl

-- one point more
pub stations-push : (points : List Point) (point : Point) (cells after : List Cell) → AreStations points cells →
    (point.kind ≡ Kind.Station → (cell : Cell) → Contains after cell ↔ (Contains cells cell ⊎ (cell ≡ point.cell))) →
    (point.kind ≡ Kind.Parking → after ≡ cells) → AreStations (points ++ point ∷ []) after
stations-push points point cells after are station parking cell =
    let named : List ℕ → Point = λ name. record { name = name; cell = cell; kind = Kind.Station } in
    elim (kind-cases point.kind) [
      | inl is ↦ (
        λ has. elim ((station is cell).0 has) [
          | inl old ↦ (let s = (are cell).0 old in (s.0, Contains-append_left points (point ∷ []) (named s.0) s.1))
          | inr same ↦
              let e : point ≡ named point.name = λ i. record { name = point.name; cell = sym same i; kind = is i } in
              (point.name, subst (λ p. Contains (points ++ point ∷ []) p) e (Contains-push points point))
        ],
        λ s. elim (Contains-push_cases points point (named s.0) s.1) [
          | inl old ↦ (station is cell).1 (inl ((are cell).1 (s.0, old)))
          | inr same ↦ (station is cell).1 (inr (sym (ap (λ (p : Point). p.cell) same)))
        ],
      )
      | inr is ↦
          let kept = parking is in (
            λ has.
                let s = (are cell).0 (subst (λ cs. Contains cs cell) kept has) in
                (s.0, Contains-append_left points (point ∷ []) (named s.0) s.1),
            λ s. elim (Contains-push_cases points point (named s.0) s.1) [
              | inl old ↦ subst (λ cs. Contains cs cell) (sym kept) ((are cell).1 (s.0, old))
              | inr same ↦ absurd (let clash : Kind.Parking ≡ Kind.Station = sym is ∙ ap (λ (p : Point). p.kind) same in cc)
            ],
          )
    ]

pub stations-more : (points : List Point) (i : ℕ) (point : Point) (cells after : List Cell) → i < length points → point ≡ get_or points i point →
    AreStations (take i points) cells →
    (point.kind ≡ Kind.Station → (cell : Cell) → Contains after cell ↔ (Contains cells cell ⊎ (cell ≡ point.cell))) →
    (point.kind ≡ Kind.Parking → after ≡ cells) → AreStations (take (i + 1) points) after
stations-more points i point cells after h read are station parking =
    let grown : take (i + 1) points ≡ take i points ++ point ∷ [] = take_more points i point h ∙ ap (λ p. take i points ++ p ∷ []) (sym read) in
    subst (λ ps. AreStations ps after) (sym grown) (stations-push (take i points) point cells after are station parking)

pub stations-none : (cells : List Cell) → length cells ≡ 0 → AreStations [] cells
stations-none cells none cell = (λ has. absurd (let h = has.1 in omega arith), λ s. absurd (let h = s.1.1 in omega arith))

pub stations-all : (points : List Point) (i : ℕ) (cells : List Cell) → length points ≤ i → AreStations (take i points) cells → AreStations points cells
stations-all points i cells h are = subst (λ ps. AreStations ps cells) (take_all i points h) are
