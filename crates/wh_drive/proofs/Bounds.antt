-- runs are bounded, and end at the clock
use Rattle.std.proofs.Common.{◌≡◌, ℕ, ◌+◌, ◌-◌, ◌<◌, ◌≤◌, ◌∙◌, ◌⊎◌, inl, inr, List, [], ◌∷◌, true, length, refl, ap, arith}
use Prim.Native.Nat.{zero, suc}
use Rattle.std.proofs.lemmas.Bool.{cases_lt}
use Rattle.std.proofs.lemmas.List.{length-set}
use Rattle.std.proofs.lemmas.List.Sums.{sum_by-set}
use Rattle.wh_grid.specs.declared.cell.Cell.{Cell}
use Rattle.wh_drive.specs.declared.vehicle.Vehicle.{Vehicle}
use Rattle.wh_drive.specs.Drives.{Drive, clock, reached, told, MayStart, MayArrive, started, arrived}
use Rattle.wh_drive.specs.Runs.{Event, Start, Arrive, Tick, Step, Run, IsSound}
use Rattle.wh_drive.specs.Standstills.{SomeoneGoes, OnlyGo, remaining, RunsAreBounded, WhoStopsHasArrived, MayAllArrive, AllMayArrive}
use Rattle.wh_drive.proofs.Keeping.{sound-step, sound-started, sound-arrived}
use Rattle.wh_drive.proofs.Running.{sound-reached}
use Rattle.wh_drive.proofs.Going.{least-below, someone-goes}
use Rattle.wh_drive.proofs.Vehicles.{idle}

-- what a vehicle has left before a time
abbrev left : ℕ → Vehicle → ℕ
left time v = (time - v.told) + (time - v.reached)

less-started : (d : Drive) (agent : ℕ) → MayStart d agent → 1 + remaining (started agent d) ≡ remaining d
less-started d agent may =
    let planned_to = may.step.planned_to in
    let sum = sum_by-set (left (clock d)) d.vehicles agent (record { reached = reached d agent; told = told d agent + 1 }) idle may.step.known in
    omega arith

less-arrived : (d : Drive) (agent step : ℕ) → IsSound d → MayArrive d agent step → 1 + remaining (arrived agent d) ≡ remaining d
less-arrived d agent step sound may =
    let goes = may.goes in
    let time = sound.in_time agent in
    let sum = sum_by-set (left (clock d)) d.vehicles agent (record { reached = reached d agent + 1; told = told d agent }) idle may.known in
    omega arith

bounded : (old : Drive) (events : List Event) (new : Drive) → IsSound old → OnlyGo events → Run old events new → length events + remaining new ≡ remaining old
bounded old [] new sound only run = (let e : remaining new ≡ remaining old = ap remaining run in omega arith)
bounded old (Start agent ∷ events) new sound only run =
    let rest = bounded run.0 events new (sound-step old (Start agent) run.0 sound run.1) only run.2 in
    let one = less-started old agent run.1.0 in
    let same : remaining run.0 ≡ remaining (started agent old) = ap remaining run.1.1 in
    omega arith
bounded old (Arrive agent step ∷ events) new sound only run =
    let rest = bounded run.0 events new (sound-step old (Arrive agent step) run.0 sound run.1) only run.2 in
    let one = less-arrived old agent step sound run.1.0 in
    let same : remaining run.0 ≡ remaining (arrived agent old) = ap remaining run.1.1 in
    omega arith
bounded old (Tick cells ∷ events) new sound only run = absurd only

pub runs_are_bounded : RunsAreBounded
runs_are_bounded events old later new r only run = bounded old later new (sound-reached events old r) only run

pub who_stops_has_arrived : WhoStopsHasArrived
who_stops_has_arrived events d agent r rule none nobody known =
    let sound = sound-reached events d r in
    let time = sound.in_time agent in
    let in_step = sound.in_step agent in
    elim (cases_lt (reached d agent) (clock d)) [
      | inl behind ↦
          let someone = someone-goes d agent sound rule known behind in
          absurd (elim someone.goes [
            | inl goes ↦ nobody someone.agent (reached d someone.agent + 1) (record { known = someone.known; goes = goes; due = refl })
            | inr may ↦ none someone.agent may
          ])
      | inr g ↦ omega arith
    ]

-- one event more, by a vehicle
record Goes (d : Drive) : Type 0 where
  event : Event
  only : OnlyGo (event ∷ [])
  end : Drive
  step : Step d event end
  sound : IsSound end
  rule : end.nofollow ≡ d.nofollow
  rows : end.rows ≡ d.rows
  size : length end.vehicles ≡ length d.vehicles
  less : 1 + remaining end ≡ remaining d

goes-on : (d : Drive) → IsSound d → SomeoneGoes d → Goes d
goes-on d sound someone =
    let agent = someone.agent in
    elim someone.goes [
      | inl goes ↦
          let step = reached d agent + 1 in
          let may : MayArrive d agent step = record { known = someone.known; goes = goes; due = refl } in
          record {
            event = Arrive agent step;
            only = tt;
            end = arrived agent d;
            step = (may, refl);
            sound = sound-arrived d agent step sound may;
            rule = refl;
            rows = refl;
            size = length-set d.vehicles agent _;
            less = less-arrived d agent step sound may;
          }
      | inr may ↦ record {
        event = Start agent;
        only = tt;
        end = started agent d;
        step = (may, refl);
        sound = sound-started d agent sound may;
        rule = refl;
        rows = refl;
        size = length-set d.vehicles agent _;
        less = less-started d agent may;
      }
    ]

-- a vehicle is behind the clock, or all are at it
record IsBehind (d : Drive) : Type 0 where
  agent : ℕ
  known : agent < length d.vehicles
  behind : reached d agent < clock d

behind-or-at : (d : Drive) → IsSound d → IsBehind d ⊎ ((agent : ℕ) → agent < length d.vehicles → reached d agent ≡ clock d)
behind-or-at d sound = elim (cases_lt 0 (length d.vehicles)) [
  | inr g ↦ inr (λ agent h. absurd (omega arith))
  | inl some ↦
      let last = least-below (reached d) (length d.vehicles) some in
      elim (cases_lt (reached d last.which) (clock d)) [
        | inl l ↦ inl (record { agent = last.which; known = last.within; behind = l })
        | inr g ↦ inr (λ agent h. let l = last.least agent h in let t = sound.in_time agent in let s = sound.in_step agent in omega arith)
      ]
]

only-first : (event : Event) (events : List Event) → OnlyGo (event ∷ []) → OnlyGo events → OnlyGo (event ∷ events)
only-first (Start agent) events first rest = rest
only-first (Arrive agent step) events first rest = rest
only-first (Tick cells) events first rest = absurd first

first-then : (d : Drive) (g : Goes d) → MayAllArrive g.end → MayAllArrive d
first-then d g all =
    let same : clock g.end ≡ clock d = ap (λ (rows : List (List Cell)). length rows - 1) g.rows in
    record {
      events = g.event ∷ all.events;
      only = only-first g.event all.events g.only all.only;
      end = all.end;
      run = (g.end, g.step, all.run);
      clock_stays = all.clock_stays ∙ same;
      arrived = λ agent h. let size = g.size in all.arrived agent (omega arith) ∙ same;
    }

at-last : (d : Drive) → ((agent : ℕ) → agent < length d.vehicles → reached d agent ≡ clock d) → MayAllArrive d
at-last d all = record { events = []; only = tt; end = d; run = refl; clock_stays = refl; arrived = all }

-- the vehicles may go on, one after another, as long as anything remains
all-go : (fuel : ℕ) (d : Drive) → IsSound d → d.nofollow ≡ true → remaining d ≤ fuel → MayAllArrive d
all-go zero d sound rule h = elim (behind-or-at d sound) [
  | inl b ↦ (let g = goes-on d sound (someone-goes d b.agent sound rule b.known b.behind) in let less = g.less in absurd (omega arith))
  | inr all ↦ at-last d all
]
all-go (suc fuel) d sound rule h = elim (behind-or-at d sound) [
  | inl b ↦
      let g = goes-on d sound (someone-goes d b.agent sound rule b.known b.behind) in
      let less = g.less in
      first-then d g (all-go fuel g.end g.sound (g.rule ∙ rule) (omega arith))
  | inr all ↦ at-last d all
]

pub all_may_arrive : AllMayArrive
all_may_arrive events d r rule = all-go (remaining d) d (sound-reached events d r) rule (omega arith)
