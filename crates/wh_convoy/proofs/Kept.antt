-- reports that are not kept
use Rattle.std.proofs.Common.{◌≡◌, ℕ, ◌+◌, ◌≤◌, inl, inr, List, [], ◌∷◌, length, Bool, true, false, subst, ap, arith}
use Rattle.std.specs.Prelude.{◌&&◌, nat_lt, nat_le}
use Rattle.std.proofs.lemmas.Bool.{cases_lt, lt-ltb}
use Rattle.std.proofs.lemmas.Bool.Decides.{leb_tells}
use Rattle.std.proofs.Math.Nat.{max-eq_left}
use Rattle.wh_drive.specs.Drives.{Drive, reached, told}
use Rattle.wh_drive.specs.Runs.{Event, Start, Arrive, Tick, Step, Run}
use Rattle.wh_drive.proofs.Going.{reached-own}
use Rattle.wh_vehicles.specs.Driving.{OnlyArrives, HasArrived}
use Rattle.wh_vehicles.specs.declared.notice.Notice.TheVariants.{Arrived, Visited, Go, Behind, UnknownAgent, NotTold}
use Rattle.wh_convoy.specs.Laws.{EachMoveIsKept}

come : (agent : ℕ) (d : Drive) (events : List Event) (e : Drive) → OnlyArrives agent events → Run d events e → reached e agent ≡ reached d agent + length events
come agent d [] e only run = (let here = ap (λ (f : Drive). reached f agent) run in omega arith)
come agent d (Arrive other step ∷ events) e only run =
    let one = reached-own d run.0 agent step (subst (λ a. Step d (Arrive a step) run.0) only.0 run.1) in
    let rest = come agent run.0 events e only.1 run.2 in
    omega arith
come agent d (Start other ∷ events) e only run = absurd only
come agent d (Tick cells ∷ events) e only run = absurd only

nowhere : (d : Drive) (events : List Event) (e : Drive) → length events ≡ 0 → Run d events e → e ≡ d
nowhere d [] e none run = run
nowhere d (event ∷ events) e none run = absurd (omega arith)

stays : (d : Drive) (agent step : ℕ) (e : Drive) → step ≤ reached d agent → HasArrived d agent step e → e ≡ d
stays d agent step e late a =
    let more = come agent d a.events e a.only a.run in
    let same = max-eq_left late in
    let is = a.reached_is in
    nowhere d a.events e (omega arith) a.run

-- of the three tests the one in the middle is false
behind : (a b c : Bool) → a ≡ true → c ≡ true → (a && (b && c)) ≡ false → b ≡ true → ⊥
behind true true true p q h r = (let clash : true ≡ false = h in cc)
behind true false c p q h r = (let clash : false ≡ true = r in cc)
behind true true false p q h r = (let clash : false ≡ true = q in cc)
behind false b c p q h r = (let clash : false ≡ true = p in cc)

pub each_move_is_kept : EachMoveIsKept
each_move_is_kept d report (UnknownAgent agent) e none a = a.2
each_move_is_kept d report (NotTold agent step) e none a = a.4
each_move_is_kept d report (Arrived agent step) e none a = elim (cases_lt (reached d report.agent) report.step) [
  | inl goes ↦ absurd (elim (leb_tells report.step (told d report.agent)) [
    | inl was ↦ behind (nat_lt report.agent (length d.vehicles)) (nat_lt (reached d report.agent) report.step) (nat_le report.step (told d report.agent))
        (lt-ltb report.agent (length d.vehicles) a.2) was.0 none (lt-ltb (reached d report.agent) report.step goes)
    | inr not ↦ (let was = a.3 in let more = not.1 in absurd (omega arith))
  ])
  | inr late ↦ stays d report.agent report.step e late a.4
]
each_move_is_kept d report (Visited agent task visit) e none a = absurd a
each_move_is_kept d report (Go agent step cell) e none a = absurd a
each_move_is_kept d report (Behind agent steps) e none a = absurd a
