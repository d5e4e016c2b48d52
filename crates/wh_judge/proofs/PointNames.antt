-- points by their names, and the first stop that is no station
use Rattle.std.proofs.Common.{◌≡◌, ◌≢◌, ℕ, ◌<◌, ◌∙◌, inl, inr, List, [], Bool, length, get_or, sym, subst, ap}
use Rattle.std.specs.Prelude.{◌↔◌, IsTrue, Contains, All}
use Rattle.std.specs.List.{AllZip}
use Rattle.std.proofs.lemmas.Bool.{cases_eq}
use Rattle.std.proofs.lemmas.List.{get_or_default}
use Rattle.wh_grid.specs.declared.cell.Cell.{Cell}
use Rattle.wh_points.specs.declared.points.Kind.{Kind}
use Rattle.wh_points.specs.declared.points.Point.{Point}
use Rattle.wh_points.specs.Points.{Layout, Site, IsLayout, IsStation, IsPoint, point_at}
use Rattle.wh_points.specs.Layouts.{AreApart}
use Rattle.wh_core.specs.Steps.{IsStationName, IsParkingName, IsUnknownName, IsFirstFault}
use Rattle.wh_core.proofs.Agreeing.{parking-no_station, zip-names, fault-one, fault-none}
use Rattle.wh_book.specs.declared.setting.Fault.{Fault}
use Rattle.wh_book.specs.Settings.{IsFault, name_at}

contained-at : (points : List Point) (p : Point) (c : Contains points p) → point_at points c.0 ≡ p
contained-at points p c = get_or_default points c.0 _ p c.1 ∙ c.2

-- no point has the name, so none of it stands anywhere
pub none-stands : (layout : Layout) (name : List ℕ) (cell : Cell) → All (λ point. point.name ≢ name) layout.points → ¬ IsPoint layout name cell
none-stands layout name cell none named = none named.1.0 _ named.1.1 (ap (λ (p : Point). p.name) named.1.2)

-- the point of the name is this one, so it stands at the cell where this one does
pub stands-iff : (layout : Layout) (name : List ℕ) (cell : Cell) (i : ℕ) (b : Bool) → AreApart layout → i < length layout.points → (point_at layout.points i).name ≡ name →
    (IsTrue b ↔ ((point_at layout.points i).cell ≡ cell)) → IsTrue b ↔ IsPoint layout name cell
stands-iff layout name cell i b apart lt named iff = (
  λ t.
      let p = point_at layout.points i in
      let is : p ≡ record { name = name; cell = cell; kind = p.kind } =
      ap (λ n. record { name = n; cell = p.cell; kind = p.kind }) named ∙ ap (λ c. record { name = name; cell = c; kind = p.kind }) (iff.0 t) in
      (p.kind, (i, lt, get_or_default layout.points i _ _ lt ∙ is)),
  λ stands.
      let there = stands.1 in
      let other = contained-at layout.points _ there in
      elim (cases_eq i there.0) [
        | inl e ↦ iff.1 (ap (λ k. (point_at layout.points k).cell) e ∙ ap (λ (p : Point). p.cell) other)
        | inr ne ↦ absurd (apart.names i there.0 lt there.1 ne (named ∙ sym (ap (λ (p : Point). p.name) other)))
      ],
)

pub unknown-no_station : (layout : Layout) (name : List ℕ) → IsUnknownName layout name → ¬ IsStationName layout name
unknown-no_station layout name unknown station = unknown station.0 (Kind.Station, station.1)

unknown-no_parking : (layout : Layout) (name : List ℕ) → IsUnknownName layout name → ¬ IsParkingName layout name
unknown-no_parking layout name unknown parking = unknown parking.0 (Kind.Parking, parking.1)

-- the name that was read by its place
pub name-read : (names : List (List ℕ)) (k : ℕ) (name : List ℕ) → k < length names → name ≡ get_or names k name → name ≡ name_at names k
name-read names k name lt read = read ∙ get_or_default names k name [] lt

-- where all stops are stations, none is the first that is none
pub stations-no_unknown : (site : Site) (stops : List (List ℕ)) (cells : List Cell) (name : List ℕ) → AllZip (IsStation site.layout) stops cells →
    IsFirstFault site.layout stops name → ¬ IsUnknownName site.layout name
stations-no_unknown site stops cells name all first unknown =
    fault-none site stops name first (unknown-no_station site.layout name unknown) (zip-names site.layout stops cells all)

pub stations-no_parking : (site : Site) (stops : List (List ℕ)) (cells : List Cell) (name : List ℕ) → IsLayout site.grid site.layout → AllZip (IsStation site.layout) stops cells →
    IsFirstFault site.layout stops name → ¬ IsParkingName site.layout name
stations-no_parking site stops cells name layout all first parking =
    fault-none site stops name first (parking-no_station site name layout parking) (zip-names site.layout stops cells all)

-- a fault says that not all stops are stations
pub fault-no_stations : (site : Site) (stops : List (List ℕ)) (fault : Fault) → IsLayout site.grid site.layout → IsFault site.layout stops fault →
    ¬ All (IsStationName site.layout) stops
fault-no_stations site stops (Fault.Unknown k) layout fault all = fault-none site stops _ fault.1 (unknown-no_station site.layout _ fault.2) all
fault-no_stations site stops (Fault.Parking k) layout fault all = fault-none site stops _ fault.1 (parking-no_station site _ layout fault.2) all

-- a stop of no point's name is the first fault exactly where it is the one that was found
pub unknown-iff : (site : Site) (stops : List (List ℕ)) (k : ℕ) (name read : List ℕ) (b : Bool) → IsFault site.layout stops (Fault.Unknown k) → read ≡ name_at stops k →
    (IsTrue b ↔ (read ≡ name)) → IsTrue b ↔ (IsFirstFault site.layout stops name × IsUnknownName site.layout name)
unknown-iff site stops k name read b fault is iff = (
  λ t.
      let e : name_at stops k ≡ name = sym is ∙ iff.0 t in
      (subst (λ n. IsFirstFault site.layout stops n) e fault.1, subst (λ n. IsUnknownName site.layout n) e fault.2),
  λ p. iff.1 (is ∙ fault-one site stops _ name fault.1 p.0 (unknown-no_station site.layout _ fault.2) (unknown-no_station site.layout name p.1)),
)

-- and a stop of a parking's name likewise
pub parking-iff : (site : Site) (stops : List (List ℕ)) (k : ℕ) (name read : List ℕ) (b : Bool) → IsLayout site.grid site.layout → IsFault site.layout stops (Fault.Parking k) →
    read ≡ name_at stops k → (IsTrue b ↔ (read ≡ name)) → IsTrue b ↔ (IsFirstFault site.layout stops name × IsParkingName site.layout name)
parking-iff site stops k name read b layout fault is iff = (
  λ t.
      let e : name_at stops k ≡ name = sym is ∙ iff.0 t in
      (subst (λ n. IsFirstFault site.layout stops n) e fault.1, subst (λ n. IsParkingName site.layout n) e fault.2),
  λ p. iff.1 (is ∙ fault-one site stops _ name fault.1 p.0 (parking-no_station site _ layout fault.2) (parking-no_station site name layout p.1)),
)

-- the first fault is of one kind
pub unknown-no_parking_fault : (site : Site) (stops : List (List ℕ)) (k : ℕ) (name : List ℕ) → IsLayout site.grid site.layout → IsFault site.layout stops (Fault.Parking k) →
    IsFirstFault site.layout stops name → ¬ IsUnknownName site.layout name
unknown-no_parking_fault site stops k name layout fault first unknown =
    let e = fault-one site stops _ name fault.1 first (parking-no_station site _ layout fault.2) (unknown-no_station site.layout name unknown) in
    unknown-no_parking site.layout name unknown (subst (λ n. IsParkingName site.layout n) e fault.2)

pub parking-no_unknown_fault : (site : Site) (stops : List (List ℕ)) (k : ℕ) (name : List ℕ) → IsLayout site.grid site.layout → IsFault site.layout stops (Fault.Unknown k) →
    IsFirstFault site.layout stops name → ¬ IsParkingName site.layout name
parking-no_unknown_fault site stops k name layout fault first parking =
    let e = fault-one site stops _ name fault.1 first (unknown-no_station site.layout _ fault.2) (parking-no_station site name layout parking) in
    unknown-no_parking site.layout name (subst (λ n. IsUnknownName site.layout n) e fault.2) parking
