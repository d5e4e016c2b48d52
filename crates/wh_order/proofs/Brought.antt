-- vehicles that are brought to given steps
use Rattle.std.proofs.Common.{◌≡◌, ◌≢◌, ℕ, ◌+◌, ◌-◌, ◌<◌, ◌≤◌, ◌∙◌, ◌++◌, ◌⊎◌, inl, inr, List, [], ◌∷◌, true, min, length, sym, subst, refl, ap, arith}
use Rattle.std.specs.Prelude.{slice_index}
use Rattle.std.proofs.lemmas.Bool.{cases_lt}
use Rattle.std.proofs.lemmas.List.{length-set, get_or-set_same, get_or-set_other}
use Rattle.wh_grid.specs.declared.cell.Cell.{Cell}
use Rattle.wh_drive.specs.declared.vehicle.Vehicle.{Vehicle}
use Rattle.wh_drive.specs.declared.refusal.StartRefusal.{StartRefusal}
use Rattle.wh_drive.specs.Drives.{Drive, clock, cell_in, planned, told, MayStart, started, arrived}
use Rattle.wh_drive.specs.Runs.{Event, Start, Arrive, Tick, Run, AreTwo}
use Rattle.wh_drive.specs.Refusals.{RefusesStart}
use Rattle.wh_drive.specs.Standstills.{OnlyGo}
use Rattle.wh_drive.proofs.Vehicles.{idle}
use Rattle.wh_drive.proofs.Running.{sound-reached}
use Rattle.wh_order.specs.Orders.{Order, Represents, vehicle_in, reached_of, told_of, HasLeft, IsArrived, started_order}
use Rattle.wh_order.specs.Bringing.{GoesOn, IsTooEarly, NoneIsTooEarly}
use Rattle.wh_order.proofs.Asking.{vehicles-size, reached-same, told-same, comes}

-- one run after another
run-join : (old : Drive) (events : List Event) (mid : Drive) (more : List Event) (new : Drive) → Run old events mid → Run mid more new → Run old (events ++ more) new
run-join old [] mid more new run rest = subst (λ d. Run d more new) run rest
run-join old (event ∷ events) mid more new run rest = (run.0, run.1, run-join run.0 events mid more new run.2 rest)

only-join : (events more : List Event) → OnlyGo events → OnlyGo more → OnlyGo (events ++ more)
only-join [] more only rest = rest
only-join (Start agent ∷ events) more only rest = only-join events more only rest
only-join (Arrive agent step ∷ events) more only rest = only-join events more only rest
only-join (Tick cells ∷ events) more only rest = absurd only

-- vehicles alone leave the plan
record SamePlan (old new : Drive) : Type 0 where
  rule : new.nofollow ≡ old.nofollow
  rows : new.rows ≡ old.rows

same-plan : (old : Drive) (events : List Event) (new : Drive) → OnlyGo events → Run old events new → SamePlan old new
same-plan old [] new only run = record { rule = ap (λ (d : Drive). d.nofollow) run; rows = ap (λ (d : Drive). d.rows) run }
same-plan old (Start agent ∷ events) new only run =
    let rest = same-plan run.0 events new only run.2 in
    record { rule = rest.rule ∙ ap (λ (d : Drive). d.nofollow) run.1.1; rows = rest.rows ∙ ap (λ (d : Drive). d.rows) run.1.1 }
same-plan old (Arrive agent step ∷ events) new only run =
    let rest = same-plan run.0 events new only run.2 in
    record { rule = rest.rule ∙ ap (λ (d : Drive). d.nofollow) run.1.1; rows = rest.rows ∙ ap (λ (d : Drive). d.rows) run.1.1 }
same-plan old (Tick cells ∷ events) new only run = absurd only

pub goes-nowhere : (d : Drive) (o : Order) → Represents o d → GoesOn d o
goes-nowhere d o r = record { events = []; only = tt; end = d; run = refl; represents = r }

pub goes-further : (d : Drive) (mid new : Order) → GoesOn d mid → ((e : Drive) → Represents mid e → GoesOn e new) → GoesOn d new
goes-further d mid new first rest =
    let then = rest first.end first.represents in
    record {
      events = first.events ++ then.events;
      only = only-join first.events then.events first.only then.only;
      end = then.end;
      run = run-join d first.events first.end then.events then.end first.run then.run;
      represents = then.represents;
    }

-- a vehicle that stands has left once it is told to go on
has-left : (o mid : Order) (agent : ℕ) → mid ≡ started_order agent o → agent < length o.vehicles → reached_of o.vehicles agent ≡ told_of o.vehicles agent → HasLeft mid agent
has-left o mid agent is known stands =
    let size : length mid.vehicles ≡ length o.vehicles = ap (λ (s : Order). length s.vehicles) is ∙ length-set o.vehicles agent _ in
    let now : vehicle_in mid.vehicles agent ≡ record { reached = reached_of o.vehicles agent; told = told_of o.vehicles agent + 1 } =
    ap (λ (s : Order). vehicle_in s.vehicles agent) is ∙ get_or-set_same o.vehicles agent (record { reached = reached_of o.vehicles agent; told = told_of o.vehicles agent + 1 }) idle known in
    let reached : reached_of mid.vehicles agent ≡ reached_of o.vehicles agent = ap (λ (v : Vehicle). v.reached) now in
    let told : told_of mid.vehicles agent ≡ told_of o.vehicles agent + 1 = ap (λ (v : Vehicle). v.told) now in
    record { known = omega arith; goes = omega arith }

-- it is told to make a step, and makes it
pub record Moved (old new : Order) (agent : ℕ) : Type 0 where
  pub size : length new.vehicles ≡ length old.vehicles
  pub clock : new.clock ≡ old.clock
  pub others : (i : ℕ) → i ≢ agent → vehicle_in new.vehicles i ≡ vehicle_in old.vehicles i
  pub here : vehicle_in new.vehicles agent ≡ record { reached = reached_of old.vehicles agent + 1; told = told_of old.vehicles agent + 1 }

pub moved : (o mid new : Order) (agent : ℕ) → mid ≡ started_order agent o → agent < length o.vehicles → IsArrived mid new agent → Moved o new agent
moved o mid new agent is known came =
    let told : Vehicle = record { reached = reached_of o.vehicles agent; told = told_of o.vehicles agent + 1 } in
    let size : length mid.vehicles ≡ length o.vehicles = ap (λ (s : Order). length s.vehicles) is ∙ length-set o.vehicles agent told in
    let count : length new.vehicles ≡ length mid.vehicles = ap (λ (vs : List Vehicle). length vs) came.vehicles ∙ length-set mid.vehicles agent _ in
    let now : vehicle_in mid.vehicles agent ≡ told = ap (λ (s : Order). vehicle_in s.vehicles agent) is ∙ get_or-set_same o.vehicles agent told idle known in
    let within : agent < length mid.vehicles = omega arith in
    record {
      size = count ∙ size;
      clock = came.clock ∙ ap (λ (s : Order). s.clock) is;
      others = λ i ne.
          ap (λ (vs : List Vehicle). vehicle_in vs i) came.vehicles ∙ get_or-set_other mid.vehicles agent i _ idle ne
          ∙ ap (λ (s : Order). vehicle_in s.vehicles i) is ∙ get_or-set_other o.vehicles agent i told idle ne;
      here = ap (λ (vs : List Vehicle). vehicle_in vs agent) came.vehicles
          ∙ get_or-set_same mid.vehicles agent (record { reached = reached_of mid.vehicles agent + 1; told = told_of mid.vehicles agent }) idle within
          ∙ ap (λ (v : Vehicle). record { reached = v.reached + 1; told = v.told }) now;
    }

pub goes-step : (o mid new : Order) (agent : ℕ) → mid ≡ started_order agent o → agent < length o.vehicles → reached_of o.vehicles agent ≡ told_of o.vehicles agent →
    ((d : Drive) → Represents o d → MayStart d agent) → ((d : Drive) → Represents o d → Represents mid (started agent d)) → IsArrived mid new agent →
    (d : Drive) → Represents o d → GoesOn d new
goes-step o mid new agent is known stands may told came d r =
    let has = has-left o mid agent is known stands in
    let step = reached_of mid.vehicles agent + 1 in
    let all = comes mid new agent step has refl came (started agent d) (told d r) in
    record {
      events = Start agent ∷ Arrive agent step ∷ [];
      only = tt;
      end = arrived agent (started agent d);
      run = (started agent d, (may d r, refl), (arrived agent (started agent d), (all.0, refl), refl));
      represents = all.1;
    }

-- a refusal to one that stands a step behind the clock names another, who is too late
refused : (d e : Drive) (o : Order) (steps : List ℕ) (agent : ℕ) (reason : StartRefusal) → SamePlan d e → Represents o e → d.nofollow ≡ true → 1 ≤ o.clock →
    length o.vehicles ≡ length steps → agent < length steps → o.clock ≤ slice_index steps agent →
    reached_of o.vehicles agent ≡ o.clock - 1 → told_of o.vehicles agent ≡ o.clock - 1 →
    ((i : ℕ) → i < length steps → (slice_index steps i ≤ reached_of o.vehicles i) ⊎ (o.clock - 1 ≤ reached_of o.vehicles i)) →
    RefusesStart e agent reason → IsTooEarly d steps agent
refused d e o steps agent (StartRefusal.UnknownAgent number) same r rule some size known due here on all why =
    let count = vehicles-size o e r in
    let past = why.0 in
    absurd (omega arith)
refused d e o steps agent StartRefusal.AtClock same r rule some size known due here on all why =
    let time = r.time in
    let far = told-same o e agent r in
    let past = why.1 in
    absurd (omega arith)
refused d e o steps agent StartRefusal.FarAhead same r rule some size known due here on all why =
    let near = r.sound.some in
    let far = told-same o e agent r in
    let at = reached-same o e agent r in
    let past = why.2 in
    absurd (omega arith)
refused d e o steps agent (StartRefusal.WaitsFor other) same r rule some size known due here on all why =
    let before = why.1.1 in
    let time = why.1.0 in
    let count = vehicles-size o e r in
    let now = r.time in
    let clock-same : clock e ≡ clock d = ap (λ (rows : List (List Cell)). length rows - 1) same.rows in
    let far = told-same o e agent r in
    let at = reached-same o e other r in
    let early = before.earlier in
    let not_over = before.not_over in
    let known_other = before.known in
    let other_in : other < length steps = omega arith in
    let some_rows = r.sound.plan.some in
    let next : told e agent + 1 ≡ clock d = omega arith in
    let plan : (i t : ℕ) → planned e i t ≡ planned d i t = λ i t. ap (λ (rows : List (List Cell)). cell_in rows i t) same.rows in
    let there : planned e other time ≡ planned e agent (clock d) = before.there ∙ ap (planned e agent) next in
    record {
      other = other;
      before = time;
      known = known;
      other_known = other_in;
      differ = before.differ;
      comes = omega arith;
      earlier = omega arith;
      there = sym (plan other time) ∙ there ∙ plan agent (clock d);
      late = elim (cases_lt time (slice_index steps other)) [
        | inr late ↦ late
        | inl far_on ↦ elim (all other other_in) [
          | inl has ↦ (let h : slice_index steps other ≤ time = omega arith in h)
          | inr along ↦
              let last : time + 1 ≡ clock d = omega arith in
              let two : AreTwo e agent other = record { first = omega arith; second = known_other; differ = λ s. before.differ (sym s) } in
              absurd (r.sound.plan.no_follow (same.rule ∙ rule) agent other time two (omega arith) (ap (planned e agent) last ∙ sym there))
        ]
      ];
    }

pub too-early : (d : Drive) (o : Order) (steps : List ℕ) (agent : ℕ) → (g : GoesOn d o) → d.nofollow ≡ true → 1 ≤ o.clock →
    length o.vehicles ≡ length steps → agent < length steps → o.clock ≤ slice_index steps agent →
    ((i : ℕ) → i < agent → vehicle_in o.vehicles i ≡ record { reached = min (slice_index steps i) o.clock; told = min (slice_index steps i) o.clock }) →
    ((i : ℕ) → agent ≤ i → i < length steps → vehicle_in o.vehicles i ≡ record { reached = min (slice_index steps i) (o.clock - 1); told = min (slice_index steps i) (o.clock - 1) }) →
    ((e : Drive) → Represents o e → (reason : StartRefusal) × RefusesStart e agent reason) → IsTooEarly d steps agent
too-early d o steps agent g rule some size known due below rest why =
    let is = why g.end g.represents in
    let mine = rest agent (omega arith) known in
    let here : reached_of o.vehicles agent ≡ min (slice_index steps agent) (o.clock - 1) = ap (λ (v : Vehicle). v.reached) mine in
    let far : told_of o.vehicles agent ≡ min (slice_index steps agent) (o.clock - 1) = ap (λ (v : Vehicle). v.told) mine in
    let all : (i : ℕ) → i < length steps → (slice_index steps i ≤ reached_of o.vehicles i) ⊎ (o.clock - 1 ≤ reached_of o.vehicles i) = λ i h.
    elim (cases_lt i agent) [
      | inl l ↦ (let at : reached_of o.vehicles i ≡ min (slice_index steps i) o.clock = ap (λ (v : Vehicle). v.reached) (below i l) in
          elim (cases_lt (slice_index steps i) o.clock) [
            | inl s ↦ inl (omega arith)
            | inr s ↦ inr (omega arith)
          ])
      | inr l ↦ (let at : reached_of o.vehicles i ≡ min (slice_index steps i) (o.clock - 1) = ap (λ (v : Vehicle). v.reached) (rest i l h) in
          elim (cases_lt (slice_index steps i) o.clock) [
            | inl s ↦ inl (omega arith)
            | inr s ↦ inr (omega arith)
          ])
    ] in
    refused d g.end o steps agent is.0 (same-plan d g.events g.end g.only g.run) g.represents rule some size known due (omega arith) (omega arith) all is.1

pub none_is_too_early : NoneIsTooEarly
none_is_too_early d steps agent events later early r same size stand =
    let sound = sound-reached events later r in
    let known = early.known in
    let known_other = early.other_known in
    let two : AreTwo later agent early.other = record { first = omega arith; second = omega arith; differ = λ e. early.differ (sym e) } in
    let mine = stand agent known in
    let theirs = stand early.other known_other in
    let comes = early.comes in
    let in_step = sound.in_step agent in
    let earlier = early.earlier in
    let there : planned later early.other early.before ≡ planned later agent (clock d) =
    same early.other early.before (omega arith) ∙ early.there ∙ sym (same agent (clock d) (omega arith)) in
    let over = sound.in_order agent early.other (clock d) early.before two (omega arith) earlier there in
    let late = early.late in
    omega arith

-- one agent more has come along
abbrev by : ℕ → ℕ → Vehicle
by step time = record { reached = min step time; told = min step time }

abbrev pub AreAlong : Order → List ℕ → ℕ → Type 0
AreAlong o steps n = (i : ℕ) → i < n → vehicle_in o.vehicles i ≡ record { reached = min (slice_index steps i) o.clock; told = min (slice_index steps i) o.clock }

abbrev pub AreLeft : Order → List ℕ → ℕ → Type 0
AreLeft o steps n =
    (i : ℕ) → n ≤ i → i < length steps → vehicle_in o.vehicles i ≡ record { reached = min (slice_index steps i) (o.clock - 1); told = min (slice_index steps i) (o.clock - 1) }

pub one-along : (o new : Order) (steps : List ℕ) (agent : ℕ) → new.clock ≡ o.clock → AreAlong o steps agent →
    ((i : ℕ) → i ≢ agent → vehicle_in new.vehicles i ≡ vehicle_in o.vehicles i) →
    vehicle_in new.vehicles agent ≡ record { reached = min (slice_index steps agent) o.clock; told = min (slice_index steps agent) o.clock } →
    AreAlong new steps (agent + 1)
one-along o new steps agent now along others here i h = elim (cases_lt i agent) [
  | inl l ↦ (let ne : i ≢ agent = λ e. omega arith in others i ne ∙ along i l ∙ ap (by (slice_index steps i)) (sym now))
  | inr g ↦
      let e : agent ≡ i = omega arith in
      subst (λ k. vehicle_in new.vehicles k ≡ by (slice_index steps k) new.clock) e (here ∙ ap (by (slice_index steps agent)) (sym now))
]

pub less-left : (o new : Order) (steps : List ℕ) (agent : ℕ) → new.clock ≡ o.clock → AreLeft o steps agent →
    ((i : ℕ) → i ≢ agent → vehicle_in new.vehicles i ≡ vehicle_in o.vehicles i) → AreLeft new steps (agent + 1)
less-left o new steps agent now left others i g h =
    let ne : i ≢ agent = λ e. omega arith in
    others i ne ∙ left i (omega arith) h ∙ ap (λ n. by (slice_index steps i) (n - 1)) (sym now)
