-- all that can be told is told
use Rattle.std.proofs.Common.{◌≡◌, ◌≢◌, ℕ, ◌+◌, ◌-◌, ◌<◌, ◌≤◌, ◌++◌, ◌∙◌, inl, inr, true, false, cond, List, [], ◌∷◌, length, sym, subst, refl, ap, arith}
use Rattle.std.specs.Prelude.{sum_by}
use Rattle.std.proofs.Math.ListN.{set}
use Rattle.std.proofs.lemmas.Bool.{cases_Bool}
use Rattle.std.proofs.lemmas.List.{append-nil, append_assoc}
use Rattle.std.proofs.lemmas.List.Sums.{sum_by-set}
use Rattle.wh_drive.specs.declared.vehicle.Vehicle.{Vehicle}
use Rattle.wh_drive.specs.declared.refusal.StartRefusal.{StartRefusal}
use Rattle.wh_drive.specs.Drives.{Drive, planned, reached, told, place, next, MayStart, started, arrived}
use Rattle.wh_drive.specs.Runs.{Event, Start, Arrive, Tick, Run}
use Rattle.wh_drive.specs.Refusals.{RefusesStart}
use Rattle.wh_drive.proofs.Vehicles.{idle}
use Rattle.wh_order.specs.declared.visit.Told.{Told}
use Rattle.wh_order.specs.declared.visit.Go.{Go}
use Rattle.wh_grid.specs.Cells.{is_cell}
use Rattle.wh_order.specs.Orders.{Order, Represents, Tells, line_of, step_of, reached_of, told_of, HasLeft, IsArrived, started_order}
use Rattle.wh_order.specs.Settling.{Passes, OnlySettle, telling, told_by, Settles, to_go}
use Rattle.wh_grid.proofs.Cells.{is_cell-same, is_cell-one}
use Rattle.wh_order.proofs.Asking.{vehicles-size, reached-same, told-same, step-at, comes}

-- who is refused may not be told
pub refused-not : (d : Drive) (agent : ℕ) (reason : StartRefusal) → RefusesStart d agent reason → MayStart d agent → ⊥
refused-not d agent (StartRefusal.UnknownAgent number) why may = (let known = may.step.known in let past = why.0 in omega arith)
refused-not d agent StartRefusal.AtClock why may = (let planned_to = may.step.planned_to in let past = why.1 in omega arith)
refused-not d agent StartRefusal.FarAhead why may = (let near = may.step.near in let past = why.2 in omega arith)
refused-not d agent (StartRefusal.WaitsFor other) why may = may.in_turn other why.1.0 why.1.1

-- what the lines say of where a vehicle stands, and of its next step
pub at-place : (o : Order) (d : Drive) (agent : ℕ) → Represents o d → agent < length o.vehicles → reached_of o.vehicles agent ≤ o.clock →
    (step_of (line_of o.lines agent) 0).cell ≡ place d agent
at-place o d agent r known h =
    let first : reached d agent + 0 ≡ reached d agent = omega arith in
    (step-at o d agent 0 r known (omega arith)).cell ∙ ap (planned d agent) first

pub at-next : (o : Order) (d : Drive) (agent : ℕ) → Represents o d → agent < length o.vehicles → reached_of o.vehicles agent + 1 ≤ o.clock →
    (step_of (line_of o.lines agent) 1).cell ≡ planned d agent (reached d agent + 1)
at-next o d agent r known h = (step-at o d agent 1 r known h).cell

pub passes : (o : Order) (agent : ℕ) → HasLeft o agent → reached_of o.vehicles agent < o.clock →
    (step_of (line_of o.lines agent) 1).cell ≡ (step_of (line_of o.lines agent) 0).cell → (d : Drive) → Represents o d → Passes d agent
passes o agent has planned same d r =
    let size = vehicles-size o d r in
    let here = reached-same o d agent r in
    let far = told-same o d agent r in
    let known = has.known in
    let goes = has.goes in
    record {
      known = omega arith;
      goes = omega arith;
      stays = sym (at-next o d agent r known (omega arith)) ∙ same ∙ at-place o d agent r known (omega arith);
    }

pub passes-not : (o : Order) (agent : ℕ) → agent < length o.vehicles → reached_of o.vehicles agent < o.clock →
    (step_of (line_of o.lines agent) 1).cell ≢ (step_of (line_of o.lines agent) 0).cell → (d : Drive) → Represents o d → Passes d agent → ⊥
passes-not o agent known planned differ d r p =
    differ (at-next o d agent r known (omega arith) ∙ p.stays ∙ sym (at-place o d agent r known (omega arith)))

pub stands-not : (o : Order) (agent : ℕ) → told_of o.vehicles agent ≤ reached_of o.vehicles agent → (d : Drive) → Represents o d → Passes d agent → ⊥
stands-not o agent stands d r p =
    let here = reached-same o d agent r in
    let far = told-same o d agent r in
    let goes = p.goes in
    omega arith

-- one after another
only-join : (d : Drive) (events : List Event) (mid : Drive) (more : List Event) → OnlySettle d events → Run d events mid → OnlySettle mid more → OnlySettle d (events ++ more)
only-join d [] mid more only run rest = subst (λ e. OnlySettle e more) run rest
only-join d (Start agent ∷ events) mid more only run rest =
    only-join (started agent d) events mid more only (subst (λ e. Run e events mid) run.1.1 run.2) rest
only-join d (Arrive agent step ∷ events) mid more only run rest =
    (only.0, only-join (arrived agent d) events mid more only.1 (subst (λ e. Run e events mid) run.1.1 run.2) rest)
only-join d (Tick cells ∷ events) mid more only run rest = absurd only

told-join : (d : Drive) (events : List Event) (mid : Drive) (more : List Event) → OnlySettle d events → Run d events mid →
    told_by d (events ++ more) ≡ told_by d events ++ told_by mid more
told-join d [] mid more only run = ap (λ e. told_by e more) (sym run)
told-join d (Start agent ∷ events) mid more only run =
    ap (λ (ts : List Told). telling d agent ++ ts) (told-join (started agent d) events mid more only (subst (λ e. Run e events mid) run.1.1 run.2))
    ∙ sym (append_assoc (telling d agent) (told_by (started agent d) events) (told_by mid more))
told-join d (Arrive agent step ∷ events) mid more only run =
    told-join (arrived agent d) events mid more only.1 (subst (λ e. Run e events mid) run.1.1 run.2)
told-join d (Tick cells ∷ events) mid more only run = absurd only

run-join : (old : Drive) (events : List Event) (mid : Drive) (more : List Event) (new : Drive) → Run old events mid → Run mid more new → Run old (events ++ more) new
run-join old [] mid more new run rest = subst (λ d. Run d more new) run rest
run-join old (event ∷ events) mid more new run rest = (run.0, run.1, run-join run.0 events mid more new run.2 rest)

pub settles-nothing : (d : Drive) (o : Order) (told : List Told) → Represents o d → Settles d o told told
settles-nothing d o told r = record { events = []; only = tt; end = d; run = refl; represents = r; told_are = sym (append-nil told) }

pub settles-more : (d : Drive) (mid new : Order) (first then last : List Told) → Settles d mid first then → ((e : Drive) → Represents mid e → Settles e new then last) →
    Settles d new first last
settles-more d mid new first then last s rest =
    let t = rest s.end s.represents in
    record {
      events = s.events ++ t.events;
      only = only-join d s.events s.end t.events s.only s.run t.only;
      end = t.end;
      run = run-join d s.events s.end t.events t.end s.run t.run;
      represents = t.represents;
      told_are = t.told_are ∙ ap (λ (ts : List Told). ts ++ told_by s.end t.events) s.told_are ∙ append_assoc first (told_by d s.events) (told_by s.end t.events)
          ∙ ap (λ (ts : List Told). first ++ ts) (sym (told-join d s.events s.end t.events s.only s.run));
    }

-- a step that stays is passed
pub settles-pass : (o new : Order) (agent : ℕ) (told : List Told) → HasLeft o agent → IsArrived o new agent → ((d : Drive) → Represents o d → Passes d agent) →
    (d : Drive) → Represents o d → Settles d new told told
settles-pass o new agent told has is may d r =
    let step = reached_of o.vehicles agent + 1 in
    let came = comes o new agent step has refl is d r in
    record {
      events = Arrive agent step ∷ [];
      only = (may d r, tt);
      end = arrived agent d;
      run = (arrived agent d, (came.0, refl), refl);
      represents = came.1;
      told_are = sym (append-nil told);
    }

-- a vehicle is told to go on: what is told, unless it stays
pub settles-start : (o new : Order) (agent : ℕ) (go : Go) (before after : List Told) → ((d : Drive) → Represents o d → MayStart d agent) →
    ((d : Drive) → Represents o d → Represents new (started agent d)) → ((d : Drive) → Represents o d → Tells d agent go) →
    (go.stays ≡ true → after ≡ before) → (go.stays ≡ false → after ≡ before ++ record { agent = agent; step = go.step; cell = go.cell } ∷ []) →
    (d : Drive) → Represents o d → Settles d new before after
settles-start o new agent go before after may on tells stays leads d r =
    let is = tells d r in
    let goes = planned d agent (told d agent) in
    let one : List Told = record { agent = agent; step = told d agent + 1; cell = next d agent } ∷ [] in
    record {
      events = Start agent ∷ [];
      only = tt;
      end = started agent d;
      run = (started agent d, (may d r, refl), refl);
      represents = on d r;
      told_are = elim (cases_Bool go.stays) [
        | inl same ↦
            let none : telling d agent ≡ [] = ap (λ b. cond b [] one) (is_cell-one (next d agent) goes (is.stays.0 same)) in
            stays same ∙ sym (append-nil before) ∙ ap (λ (ts : List Told). before ++ ts) (sym (append-nil (telling d agent) ∙ none))
        | inr away ↦
            let some : telling d agent ≡ one = elim (cases_Bool (is_cell (next d agent) goes)) [
              | inl alike ↦ absurd (let e = is.stays.1 (is_cell-same (next d agent) goes alike) in cc)
              | inr apart ↦ ap (λ b. cond b [] one) apart
            ] in
            let told-is : record { agent = agent; step = go.step; cell = go.cell } ∷ [] ≡ one =
            λ i. record { agent = agent; step = is.step i; cell = is.cell i } ∷ [] in
            leads away ∙ ap (λ (ts : List Told). before ++ ts) (told-is ∙ sym (append-nil (telling d agent) ∙ some))
      ];
    }

-- each takes one of what is to go
abbrev left : ℕ → Vehicle → ℕ
left time v = (time - v.told) + (time - v.reached)

pub less-passed : (o new : Order) (agent : ℕ) → HasLeft o agent → reached_of o.vehicles agent < o.clock → IsArrived o new agent → to_go new < to_go o
less-passed o new agent has planned is =
    let goes = has.goes in
    let sum = sum_by-set (left o.clock) o.vehicles agent (record { reached = reached_of o.vehicles agent + 1; told = told_of o.vehicles agent }) idle has.known in
    let clock-same : to_go new ≡ sum_by (left o.clock) new.vehicles = ap (λ c. sum_by (left c) new.vehicles) is.clock in
    let same : to_go new ≡ sum_by (left o.clock) (set o.vehicles agent (record { reached = reached_of o.vehicles agent + 1; told = told_of o.vehicles agent })) =
    clock-same ∙ ap (λ (vs : List Vehicle). sum_by (left o.clock) vs) is.vehicles in
    omega arith

pub less-started : (o : Order) (agent : ℕ) → agent < length o.vehicles → told_of o.vehicles agent < o.clock → to_go (started_order agent o) < to_go o
less-started o agent known planned =
    let sum = sum_by-set (left o.clock) o.vehicles agent (record { reached = reached_of o.vehicles agent; told = told_of o.vehicles agent + 1 }) idle known in
    omega arith
