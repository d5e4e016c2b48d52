-- the clock waits for the vehicle that is furthest back
use Rattle.std.proofs.Common.{◌≡◌, List, ℕ, ◌-◌, ◌≤◌, ◌∙◌, Option, Some, None, subst, refl, ap, arith}
use Rattle.std.specs.Prelude.{IfNone}
use Rattle.wh_drive.specs.declared.vehicle.Vehicle.{Vehicle}
use Rattle.wh_drive.specs.Drives.{Drive, clock, reached}
use Rattle.wh_order.specs.Orders.{Order, Represents, reached_of, IsFurthestBack}
use Rattle.wh_order.proofs.Asking.{vehicles-size, reached-same}
use Rattle.wh_vehicles.specs.Driving.{TellsLate, NoneIsLate}
use Rattle.wh_vehicles.specs.declared.notice.Notice.{Notice}
use Rattle.wh_vehicles.specs.declared.notice.Notice.TheVariants.{Arrived, Visited, Go, Behind, UnknownAgent, NotTold}
use Rattle.wh_dispatch.specs.Lines.{AllKeepUp}

pub late_one : (o : Order) (bound : ℕ) (notice : Notice) (d : Drive) → Represents o d → TellsLate o bound notice →
    (agent : ℕ) × IsFurthestBack d.vehicles agent × (bound ≤ clock d - reached d agent) × (notice ≡ Behind agent (clock d - reached d agent))
late_one o bound (Behind agent steps) d r t =
    let here = reached-same o d agent r in
    let time = r.time in
    let steps_are : steps ≡ clock d - reached d agent = t.1 ∙ ap (λ n. n - reached_of o.vehicles agent) time ∙ ap (λ n. clock d - n) here in
    let late = t.2 in
    (agent, subst (λ (vs : List Vehicle). IsFurthestBack vs agent) r.vehicles t.0, omega arith, ap (λ n. Behind agent n) steps_are)
late_one o bound (UnknownAgent agent) d r t = absurd t
late_one o bound (NotTold agent step) d r t = absurd t
late_one o bound (Arrived agent step) d r t = absurd t
late_one o bound (Visited agent task visit) d r t = absurd t
late_one o bound (Go agent step cell) d r t = absurd t

pub keep_up : (o : Order) (bound : ℕ) (d : Drive) → Represents o d → NoneIsLate o bound → AllKeepUp d bound
keep_up o bound d r none agent known =
    let size = vehicles-size o d r in
    let here = reached-same o d agent r in
    let time = r.time in
    let early = none agent (omega arith) in
    omega arith

pub none_late : (found : Option Notice) (A : Type 0) → IfNone found A → ((notice : Notice) → found ≡ Some notice → ⊥) → A
none_late None A a not = a
none_late (Some notice) A a not = absurd (not notice refl)
