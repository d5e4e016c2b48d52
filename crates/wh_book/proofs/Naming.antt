-- names of points, and the first stop that is no station
use Rattle.std.proofs.Common.{◌≡◌, ℕ, ◌+◌, ◌<◌, ◌≤◌, ◌∙◌, inl, inr, List, [], ◌∷◌, ◌++◌, false, length, get_or, take, drop, sym, subst, refl, ap, arith, append_assoc}
use Prim.Native.Nat.{zero, suc}
use Rattle.std.specs.Prelude.{◌↔◌, All, Contains}
use Rattle.std.specs.List.{AllZip}
use Rattle.std.proofs.lemmas.Bool.{cases_eq}
use Rattle.std.proofs.lemmas.List.{take-append-drop, take_more, get_or_default}
use Rattle.std.proofs.lemmas.List.Elements.{Contains-push, Contains-push_cases, Contains-append_left}
use Rattle.std.proofs.lemmas.Slice.Zip.{all_zipped_more}
use Rattle.wh_grid.specs.declared.cell.Cell.{Cell}
use Rattle.wh_points.specs.declared.points.Kind.{Kind}
use Rattle.wh_points.specs.declared.points.Point.{Point}
use Rattle.wh_points.specs.Points.{Layout, IsStation}
use Rattle.wh_core.specs.Steps.{IsFirstFault, IsUnknownName, IsParkingName, IsStationName}
use Rattle.wh_core.specs.States.{State}
use Rattle.wh_core.specs.Steps.{Refuses}
use Rattle.wh_event.specs.declared.event.Event.{Event}
use Rattle.wh_points.specs.Points.{Site}
use Rattle.wh_book.specs.Settings.{IsNamed, IsFault, name_at, faulty}
use Rattle.wh_book.specs.declared.setting.Fault.{Fault}

stations : (layout : Layout) (names : List (List ℕ)) (cells : List Cell) → AllZip (IsStation layout) names cells → All (IsStationName layout) names
stations layout [] [] all k d lt = absurd (omega arith)
stations layout [] (c ∷ cells) all k d lt = absurd all
stations layout (n ∷ names) [] all k d lt = absurd all
stations layout (n ∷ names) (c ∷ cells) all zero d lt = (c, all.0)
stations layout (n ∷ names) (c ∷ cells) all (suc k) d lt = stations layout names cells all.1 k d (omega arith)

pub all-stations : (layout : Layout) (names : List (List ℕ)) (cells : List Cell) → AllZip (IsStation layout) names cells → All (IsStationName layout) names
all-stations = stations

-- a list before, at and after a place
parted : (names : List (List ℕ)) (k : ℕ) → k < length names → names ≡ take k names ++ name_at names k ∷ drop (k + 1) names
parted names k lt =
    sym (take-append-drop (k + 1) names) ∙ ap (λ xs. xs ++ drop (k + 1) names) (take_more names k [] lt)
    ∙ append_assoc (take k names) (name_at names k ∷ []) (drop (k + 1) names)

pub first-fault : (layout : Layout) (names : List (List ℕ)) (k : ℕ) (cells : List Cell) → k < length names →
    AllZip (IsStation layout) (take k names) cells → IsFirstFault layout names (name_at names k)
first-fault layout names k cells lt all = (take k names, drop (k + 1) names, parted names k lt, stations layout (take k names) cells all)

pub fault-unknown : (layout : Layout) (names : List (List ℕ)) (k : ℕ) (cells : List Cell) (name : List ℕ) → k < length names → name ≡ get_or names k name →
    AllZip (IsStation layout) (take k names) cells → ((point : Point) → ¬ IsNamed layout.points name point) → IsFault layout names (Fault.Unknown k)
fault-unknown layout names k cells name lt read all none =
    let same : name ≡ name_at names k = read ∙ get_or_default names k name [] lt in
    let unknown : IsUnknownName layout name = λ cell point. none _ (record { there = point.1; name_is = refl }) in
    (lt, first-fault layout names k cells lt all, subst (IsUnknownName layout) same unknown)

pub fault-parking : (layout : Layout) (names : List (List ℕ)) (k : ℕ) (cells : List Cell) (name : List ℕ) (point : Point) → k < length names → name ≡ get_or names k name →
    AllZip (IsStation layout) (take k names) cells → IsNamed layout.points name point → point.kind ≡ Kind.Parking → IsFault layout names (Fault.Parking k)
fault-parking layout names k cells name point lt read all named kind =
    let same : name ≡ name_at names k = read ∙ get_or_default names k name [] lt in
    let is : point ≡ record { name = name; cell = point.cell; kind = Kind.Parking } =
    ap (λ n. record { name = n; cell = point.cell; kind = point.kind }) named.name_is ∙ ap (λ t. record { name = name; cell = point.cell; kind = t }) kind in
    let parking : IsParkingName layout name = (point.cell, subst (Contains layout.points) is named.there) in
    (lt, first-fault layout names k cells lt all, subst (IsParkingName layout) same parking)

pub stations-more : (layout : Layout) (names : List (List ℕ)) (k : ℕ) (cells : List Cell) (name : List ℕ) (point : Point) → k < length names → name ≡ get_or names k name →
    AllZip (IsStation layout) (take k names) cells → IsNamed layout.points name point → point.kind ≡ Kind.Station →
    AllZip (IsStation layout) (take (k + 1) names) (cells ++ point.cell ∷ [])
stations-more layout names k cells name point lt read all named kind =
    let is : point ≡ record { name = name; cell = point.cell; kind = Kind.Station } =
    ap (λ n. record { name = n; cell = point.cell; kind = point.kind }) named.name_is ∙ ap (λ t. record { name = name; cell = point.cell; kind = t }) kind in
    let station : IsStation layout name point.cell = subst (Contains layout.points) is named.there in
    let same : name ≡ name_at names k = read ∙ get_or_default names k name [] lt in
    subst (λ xs. AllZip (IsStation layout) xs (cells ++ point.cell ∷ [])) (sym (take_more names k [] lt))
    (all_zipped_more (IsStation layout) (take k names) cells (name_at names k) point.cell all (subst (λ n. IsStation layout n point.cell) same station))

-- a task with such a stop is refused
pub refuses-fault : (site : Site) (s : State) (client : List ℕ) (stops : List (List ℕ)) (fault : Fault) → s.closed ≡ false → IsFault site.layout stops fault →
    Refuses site s (faulty stops fault) (Event.Submit client stops)
refuses-fault site s client stops (Fault.Unknown k) closed is = (closed, is.1, is.2)
refuses-fault site s client stops (Fault.Parking k) closed is = (closed, is.1, is.2)
