-- a vehicle arrives step by step
use Rattle.std.proofs.Common.{◌≡◌, ℕ, ◌+◌, ◌<◌, ◌∙◌, ◌++◌, max, List, [], ◌∷◌, length, Result, Ok, Err, subst, refl, ap, arith}
use Rattle.std.specs.Prelude.{IfOk, IfErr}
use Rattle.std.proofs.lemmas.List.{length-set}
use Rattle.wh_drive.specs.declared.vehicle.Vehicle.{Vehicle}
use Rattle.wh_drive.specs.declared.vehicle.Arrival.{Arrival}
use Rattle.wh_drive.specs.declared.refusal.ArriveRefusal.{ArriveRefusal}
use Rattle.wh_drive.specs.Drives.{Drive, reached, told, MayArrive, arrived}
use Rattle.wh_drive.specs.Runs.{Event, Start, Arrive, Tick, Step, Run}
use Rattle.wh_drive.specs.Refusals.{RefusesArrive, Reports}
use Rattle.wh_drive.proofs.Vehicles.{arrived-same}
use Rattle.wh_order.specs.Orders.{Order, Represents}
use Rattle.wh_vehicles.specs.Driving.{OnlyArrives, HasArrived}

-- the vehicle has come to a step, and has been told as far as before
pub record Came (d : Drive) (agent step : ℕ) (o : Order) : Type 0 where
  pub events : List Event
  pub only : OnlyArrives agent events
  pub end : Drive
  pub run : Run d events end
  pub known : agent < length end.vehicles
  pub reached_is : reached end agent ≡ step
  pub told_is : told end agent ≡ told d agent
  pub represents : Represents o end

pub came-nowhere : (d : Drive) (agent step : ℕ) (o : Order) → Represents o d → agent < length d.vehicles → reached d agent ≡ step → Came d agent step o
came-nowhere d agent step o r known here = record {
  events = [];
  only = tt;
  end = d;
  run = refl;
  known = known;
  reached_is = here;
  told_is = refl;
  represents = r;
}

only-more : (agent step : ℕ) (events : List Event) → OnlyArrives agent events → OnlyArrives agent (events ++ Arrive agent step ∷ [])
only-more agent step [] only = (refl, tt)
only-more agent step (Arrive other number ∷ events) only = (only.0, only-more agent step events only.1)
only-more agent step (Start other ∷ events) only = absurd only
only-more agent step (Tick cells ∷ events) only = absurd only

run-more : (old : Drive) (events : List Event) (mid : Drive) (event : Event) (new : Drive) → Run old events mid → Step mid event new → Run old (events ++ event ∷ []) new
run-more old [] mid event new run step = (new, subst (λ d. Step d event new) run step, refl)
run-more old (first ∷ events) mid event new run step = (run.0, run.1, run-more run.0 events mid event new run.2 step)

-- the step that is due is arrived at
due : (result : Result Arrival ArriveRefusal) (new : Order) (e : Drive) (agent step : ℕ) → agent < length e.vehicles → reached e agent ≡ step → step < told e agent →
    IfOk result (λ arrival. (f : Drive) × Reports e agent (step + 1) arrival f × Represents new f) →
    IfErr result (λ refusal. RefusesArrive e agent (step + 1) refusal) → MayArrive e agent (step + 1) × Represents new (arrived agent e)
due (Ok Arrival.Now) new e agent step known here far ok err = (ok.1.0, subst (Represents new) ok.1.1 ok.2)
due (Ok Arrival.Before) new e agent step known here far ok err = absurd (let before = ok.1.1 in omega arith)
due (Err (ArriveRefusal.UnknownAgent number)) new e agent step known here far ok err = absurd (let past = err.0 in omega arith)
due (Err (ArriveRefusal.NotTold number)) new e agent step known here far ok err = absurd (let past = err.1 in omega arith)
due (Err (ArriveRefusal.EarlierIsDue number)) new e agent step known here far ok err =
    absurd (let before = err.2 in let is = err.3 in omega arith)

if-ok : {X E : Type 0} (r : Result X E) (P Q : X → Type 0) → ((x : X) → P x → Q x) → IfOk r P → IfOk r Q
if-ok (Ok x) P Q f p = f x p
if-ok (Err e) P Q f p = tt

if-err : {X E : Type 0} (r : Result X E) (P Q : E → Type 0) → ((x : E) → P x → Q x) → IfErr r P → IfErr r Q
if-err (Ok x) P Q f p = tt
if-err (Err e) P Q f p = f e p

pub came-further : (d : Drive) (agent step : ℕ) (o new : Order) (result : Result Arrival ArriveRefusal) → Came d agent step o → step < told d agent →
    IfOk result (λ arrival. (e : Drive) → Represents o e → (f : Drive) × Reports e agent (step + 1) arrival f × Represents new f) →
    IfErr result (λ refusal. (e : Drive) → Represents o e → RefusesArrive e agent (step + 1) refusal) → Came d agent (step + 1) new
came-further d agent step o new result came far ok err =
    let e = came.end in
    let told_is = came.told_is in
    let may = due result new e agent step came.known came.reached_is (omega arith)
    (if-ok result _ _ (λ arrival is. is e came.represents) ok) (if-err result _ _ (λ refusal is. is e came.represents) err) in
    let same = arrived-same e agent came.known in
    let size : length (arrived agent e).vehicles ≡ length e.vehicles = length-set e.vehicles agent _ in
    let known = came.known in
    record {
      events = came.events ++ Arrive agent (step + 1) ∷ [];
      only = only-more agent (step + 1) came.events came.only;
      end = arrived agent e;
      run = run-more d came.events e (Arrive agent (step + 1)) (arrived agent e) came.run (may.0, refl);
      known = omega arith;
      reached_is = ap (λ (v : Vehicle). v.reached) same ∙ ap (λ n. n + 1) came.reached_is;
      told_is = ap (λ (v : Vehicle). v.told) same ∙ came.told_is;
      represents = may.1;
    }

pub has-arrived : (d : Drive) (agent last step : ℕ) (o : Order) (came : Came d agent last o) → last ≡ max (reached d agent) step → HasArrived d agent step came.end
has-arrived d agent last step o came is = record {
  events = came.events;
  only = came.only;
  run = came.run;
  reached_is = came.reached_is ∙ is;
}
