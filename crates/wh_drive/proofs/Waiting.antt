-- what is waited for, and how long it lasts that a vehicle may be told to go on
use Rattle.std.proofs.Common.{◌≡◌, ◌≢◌, ℕ, ◌+◌, ◌<◌, ◌≤◌, ◌∙◌, ◌⊎◌, inl, inr, List, [], ◌∷◌, length, sym, subst, refl, ap, arith}
use Rattle.std.proofs.lemmas.Bool.{cases_eq}
use Rattle.std.proofs.lemmas.List.{length-set}
use Rattle.wh_grid.specs.declared.cell.Cell.{Cell}
use Rattle.wh_drive.specs.declared.vehicle.Vehicle.{Vehicle}
use Rattle.wh_drive.specs.declared.refusal.StartRefusal.{StartRefusal}
use Rattle.wh_drive.specs.Drives.{Drive, clock, planned, reached, told, next, HasStep, MayStart, started, arrived, ticked}
use Rattle.wh_drive.specs.Runs.{Event, Start, Arrive, Tick, Step, Run, IsSound}
use Rattle.wh_drive.specs.Refusals.{WaitsFor, RefusesStart, Wakes, SomeWakes}
use Rattle.wh_drive.specs.Laws.{IsTold, MayStartLasts, OnlyThatWakes}
use Rattle.wh_drive.proofs.Keeping.{sound-step}
use Rattle.wh_drive.proofs.Running.{sound-reached}
use Rattle.wh_drive.proofs.Vehicles.{started-other, started-reached, arrived-other, arrived-told, arrived-reached, ticked-past, ticked-length}

-- what a later drive keeps of an agent: the rows so far, what it has been told, and nobody has gone back
record Keeps (old new : Drive) (agent : ℕ) : Type 0 where
  size : length new.vehicles ≡ length old.vehicles
  ahead : new.ahead ≡ old.ahead
  on : clock old ≤ clock new
  rows : (i time : ℕ) → time ≤ clock old → planned new i time ≡ planned old i time
  as_told : told new agent ≡ told old agent
  no_less : (i : ℕ) → reached old i ≤ reached new i

keeps-started : (d : Drive) (other agent : ℕ) → other < length d.vehicles → agent ≢ other → Keeps d (started other d) agent
keeps-started d other agent known ne = record {
  size = length-set d.vehicles other _;
  ahead = refl;
  on = omega arith;
  rows = λ i time h. refl;
  as_told = ap (λ (v : Vehicle). v.told) (started-other d other agent ne);
  no_less = λ i. let e = started-reached d other i known in omega arith;
}

keeps-arrived : (d : Drive) (other agent : ℕ) → other < length d.vehicles → Keeps d (arrived other d) agent
keeps-arrived d other agent known = record {
  size = length-set d.vehicles other _;
  ahead = refl;
  on = omega arith;
  rows = λ i time h. refl;
  as_told = arrived-told d other agent known;
  no_less = λ i. arrived-reached d other i known;
}

keeps-ticked : (d : Drive) (cells : List Cell) (agent : ℕ) → IsSound d → Keeps d (ticked cells d) agent
keeps-ticked d cells agent sound =
    let some = sound.plan.some in
    let size = ticked-length d cells in
    record {
      size = refl;
      ahead = refl;
      on = omega arith;
      rows = λ i time h. ticked-past d cells i time (omega arith);
      as_told = refl;
      no_less = λ i. omega arith;
    }

step-kept : (old new : Drive) (agent : ℕ) → Keeps old new agent → HasStep old agent → HasStep new agent
step-kept old new agent k step =
    let known = step.known in
    let planned_to = step.planned_to in
    let near = step.near in
    let size = k.size in
    let ahead = k.ahead in
    let on = k.on in
    let as_told = k.as_told in
    let gone = k.no_less agent in
    record { known = omega arith; planned_to = omega arith; near = omega arith }

next-kept : (old new : Drive) (agent : ℕ) → Keeps old new agent → told old agent < clock old → next new agent ≡ next old agent
next-kept old new agent k h =
    ap (λ t. planned new agent (t + 1)) k.as_told ∙ k.rows agent (told old agent + 1) (omega arith)

-- who may be told, may be told then
may-kept : (old new : Drive) (agent : ℕ) → Keeps old new agent → MayStart old agent → MayStart new agent
may-kept old new agent k may = record {
  step = step-kept old new agent k may.step;
  in_turn = λ other time before.
      let planned_to = may.step.planned_to in
      let known = before.known in
      let size = k.size in
      let as_told = k.as_told in
      let earlier = before.earlier in
      let not_over = before.not_over in
      let gone = k.no_less other in
      may.in_turn other time (record {
        known = omega arith;
        differ = before.differ;
        earlier = omega arith;
        there = sym (k.rows other time (omega arith)) ∙ before.there ∙ next-kept old new agent k planned_to;
        not_over = omega arith;
      });
}

-- who waits for another, waits for it as long as that one does not arrive
waits-kept : (old new : Drive) (agent other : ℕ) → Keeps old new agent → reached new other ≡ reached old other → WaitsFor old agent other → WaitsFor new agent other
waits-kept old new agent other k still waits =
    let step = waits.0 in
    let planned_to = step.planned_to in
    let time = waits.1.0 in
    let before = waits.1.1 in
    let known = before.known in
    let size = k.size in
    let as_told = k.as_told in
    let earlier = before.earlier in
    let not_over = before.not_over in (
      step-kept old new agent k step,
      (
        time,
        record {
          known = omega arith;
          differ = before.differ;
          earlier = omega arith;
          there = k.rows other time (omega arith) ∙ before.there ∙ sym (next-kept old new agent k planned_to);
          not_over = omega arith;
        },
      ),
    )

may-step : (old : Drive) (event : Event) (new : Drive) (agent : ℕ) → IsSound old → Step old event new → MayStart old agent → IsTold agent (event ∷ []) ⊎ MayStart new agent
may-step old (Start other) new agent sound step may = elim (cases_eq agent other) [
  | inl e ↦ inl (inl (sym e))
  | inr ne ↦ inr (subst (λ d. MayStart d agent) (sym step.1) (may-kept old (started other old) agent (keeps-started old other agent step.0.step.known ne) may))
]
may-step old (Arrive other number) new agent sound step may =
    inr (subst (λ d. MayStart d agent) (sym step.1) (may-kept old (arrived other old) agent (keeps-arrived old other agent step.0.known) may))
may-step old (Tick cells) new agent sound step may =
    inr (subst (λ d. MayStart d agent) (sym step.1) (may-kept old (ticked cells old) agent (keeps-ticked old cells agent sound) may))

told-first : (agent : ℕ) (event : Event) (events : List Event) → IsTold agent (event ∷ []) → IsTold agent (event ∷ events)
told-first agent (Start other) events t = elim t [
  | inl e ↦ inl e
  | inr n ↦ absurd n
]
told-first agent (Arrive other number) events t = absurd t
told-first agent (Tick cells) events t = absurd t

told-later : (agent : ℕ) (event : Event) (events : List Event) → IsTold agent events → IsTold agent (event ∷ events)
told-later agent (Start other) events t = inr t
told-later agent (Arrive other number) events t = t
told-later agent (Tick cells) events t = t

may-run : (old : Drive) (events : List Event) (new : Drive) (agent : ℕ) → IsSound old → MayStart old agent → Run old events new → IsTold agent events ⊎ MayStart new agent
may-run old [] new agent sound may run = inr (subst (λ d. MayStart d agent) (sym run) may)
may-run old (event ∷ events) new agent sound may run = elim (may-step old event run.0 agent sound run.1 may) [
  | inl t ↦ inl (told-first agent event events t)
  | inr m ↦ elim (may-run run.0 events new agent (sound-step old event run.0 sound run.1) m run.2) [
    | inl t ↦ inl (told-later agent event events t)
    | inr m' ↦ inr m'
  ]
]

pub may_start_lasts : MayStartLasts
may_start_lasts events old later new agent r may run = may-run old later new agent (sound-reached events old r) may run

-- a refusal excludes that the vehicle may be told
refused-not : (d : Drive) (agent : ℕ) (refusal : StartRefusal) → RefusesStart d agent refusal → MayStart d agent → ⊥
refused-not d agent (StartRefusal.UnknownAgent number) r may = (let h = r.0 in let k = may.step.known in omega arith)
refused-not d agent StartRefusal.AtClock r may = (let h = r.1 in let k = may.step.planned_to in omega arith)
refused-not d agent StartRefusal.FarAhead r may = (let h = r.2 in let k = may.step.near in omega arith)
refused-not d agent (StartRefusal.WaitsFor other) r may = may.in_turn other r.1.0 r.1.1

-- a refusal lasts where what it waits for does not happen, and the agent is not told
refusal-kept : (old new : Drive) (agent : ℕ) (refusal : StartRefusal) → Keeps old new agent → clock new ≡ clock old → ((i : ℕ) → reached new i ≡ reached old i) →
    RefusesStart old agent refusal → RefusesStart new agent refusal
refusal-kept old new agent (StartRefusal.UnknownAgent number) k clock still r = (let h = r.0 in let s = k.size in let l : length new.vehicles ≤ agent = omega arith in l, r.1)
refusal-kept old new agent StartRefusal.AtClock k clock still r =
    let h = r.0 in let g = r.1 in let s = k.size in let t = k.as_told in
    ((let l : agent < length new.vehicles = omega arith in l), omega arith)
refusal-kept old new agent StartRefusal.FarAhead k clock still r =
    let h = r.0 in let g = r.1 in let f = r.2 in let s = k.size in let t = k.as_told in let a = k.ahead in let e = still agent in
    ((let l : agent < length new.vehicles = omega arith in l), omega arith, omega arith)
refusal-kept old new agent (StartRefusal.WaitsFor other) k clock still r = waits-kept old new agent other k (still other) r

-- one event: what is waited for happens, or the refusal lasts
refusal-step : (old : Drive) (event : Event) (new : Drive) (agent : ℕ) (refusal : StartRefusal) → IsSound old → Step old event new → RefusesStart old agent refusal →
    Wakes agent refusal event ⊎ RefusesStart new agent refusal
refusal-step old (Start other) new agent refusal sound step r = elim (cases_eq agent other) [
  | inl e ↦ absurd (refused-not old agent refusal r (subst (MayStart old) (sym e) step.0))
  | inr ne ↦
      let known = step.0.step.known in
      inr (subst (λ d. RefusesStart d agent refusal) (sym step.1)
      (refusal-kept old (started other old) agent refusal (keeps-started old other agent known ne) refl (λ i. started-reached old other i known) r))
]
refusal-step old (Arrive other number) new agent (StartRefusal.UnknownAgent number') sound step r =
    inr (subst (λ d. RefusesStart d agent (StartRefusal.UnknownAgent number')) (sym step.1)
    (let s = length-set old.vehicles other (record { reached = reached old other + 1; told = told old other }) in let h = r.0 in (let l : length (arrived other old).vehicles ≤ agent = omega arith in l, r.1)))
refusal-step old (Arrive other number) new agent StartRefusal.AtClock sound step r =
    let k = keeps-arrived old other agent step.0.known in
    let h = r.0 in let g = r.1 in let s = k.size in let t = k.as_told in
    inr (subst (λ d. RefusesStart d agent StartRefusal.AtClock) (sym step.1)
    ((let l : agent < length (arrived other old).vehicles = omega arith in l), (let m : clock (arrived other old) ≤ told (arrived other old) agent = omega arith in m)))
refusal-step old (Arrive other number) new agent StartRefusal.FarAhead sound step r = elim (cases_eq agent other) [
  | inl e ↦ inl (sym e)
  | inr ne ↦
      let k = keeps-arrived old other agent step.0.known in
      let h = r.0 in let g = r.1 in let f = r.2 in let s = k.size in let t = k.as_told in
      let e : reached (arrived other old) agent ≡ reached old agent = ap (λ (v : Vehicle). v.reached) (arrived-other old other agent ne) in
      inr (subst (λ d. RefusesStart d agent StartRefusal.FarAhead) (sym step.1) (
        (let l : agent < length (arrived other old).vehicles = omega arith in l),
        (let m : told (arrived other old) agent < clock (arrived other old) = omega arith in m),
        (let m : reached (arrived other old) agent + old.ahead ≤ told (arrived other old) agent = omega arith in m),
      ))
]
refusal-step old (Arrive other number) new agent (StartRefusal.WaitsFor whom) sound step r = elim (cases_eq whom other) [
  | inl e ↦ inl (sym e)
  | inr ne ↦ inr (subst (λ d. RefusesStart d agent (StartRefusal.WaitsFor whom)) (sym step.1)
      (waits-kept old (arrived other old) agent whom (keeps-arrived old other agent step.0.known)
      (ap (λ (v : Vehicle). v.reached) (arrived-other old other whom ne)) r))
]
refusal-step old (Tick cells) new agent (StartRefusal.UnknownAgent number') sound step r = inr (subst (λ d. RefusesStart d agent (StartRefusal.UnknownAgent number')) (sym step.1) r)
refusal-step old (Tick cells) new agent StartRefusal.AtClock sound step r = inl tt
refusal-step old (Tick cells) new agent StartRefusal.FarAhead sound step r =
    let k = keeps-ticked old cells agent sound in
    let c = k.on in
    let g = r.1 in
    inr (subst (λ d. RefusesStart d agent StartRefusal.FarAhead) (sym step.1) (r.0, (let m : told old agent < clock (ticked cells old) = omega arith in m), r.2))
refusal-step old (Tick cells) new agent (StartRefusal.WaitsFor whom) sound step r =
    inr (subst (λ d. RefusesStart d agent (StartRefusal.WaitsFor whom)) (sym step.1) (waits-kept old (ticked cells old) agent whom (keeps-ticked old cells agent sound) refl r))

refusal-run : (old : Drive) (events : List Event) (new : Drive) (agent : ℕ) (refusal : StartRefusal) → IsSound old → RefusesStart old agent refusal → Run old events new →
    SomeWakes agent refusal events ⊎ RefusesStart new agent refusal
refusal-run old [] new agent refusal sound r run = inr (subst (λ d. RefusesStart d agent refusal) (sym run) r)
refusal-run old (event ∷ events) new agent refusal sound r run = elim (refusal-step old event run.0 agent refusal sound run.1 r) [
  | inl w ↦ inl (inl w)
  | inr r' ↦ elim (refusal-run run.0 events new agent refusal (sound-step old event run.0 sound run.1) r' run.2) [
    | inl w ↦ inl (inr w)
    | inr r'' ↦ inr r''
  ]
]

pub only_that_wakes : OnlyThatWakes
only_that_wakes events old later new agent refusal r refused run may =
    elim (refusal-run old later new agent refusal (sound-reached events old r) refused run) [
      | inl w ↦ w
      | inr still ↦ absurd (refused-not new agent refusal still may)
    ]
