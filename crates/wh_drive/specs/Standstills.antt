-- who may go on, and when nobody may
use Rattle.std.specs.Prelude.{◌≡◌, ◌≢◌, ℕ, ◌+◌, ◌-◌, ◌<◌, ◌≤◌, ◌⊎◌, List, [], ◌∷◌, Bool, true, length, sum_by}
use Rattle.wh_drive.specs.declared.vehicle.Vehicle.{Vehicle}
use Rattle.wh_drive.specs.Drives.{Drive, clock, planned, reached, told, place, next, IsUnderWay, HasStep, MayStart, MayArrive}
use Rattle.wh_drive.specs.Runs.{Event, Start, Arrive, Tick, Run, IsReached}

-- A vehicle that is behind the clock, and none further back, is under way or may go on, where nobody follows.
abbrev pub TheLastMayGo : Type 0
TheLastMayGo =
    (events : List Event) (d : Drive) (agent : ℕ) → IsReached events d → d.nofollow ≡ true → agent < length d.vehicles →
    reached d agent < clock d → ((other : ℕ) → other < length d.vehicles → reached d agent ≤ reached d other) →
    IsUnderWay d agent ⊎ MayStart d agent

-- a vehicle is under way or may go on
pub record SomeoneGoes (d : Drive) : Type 0 where
  pub agent : ℕ
  pub known : agent < length d.vehicles
  pub goes : IsUnderWay d agent ⊎ MayStart d agent

-- So there is no standstill: where a vehicle is behind the clock, one is under way or may go on.
abbrev pub SomeoneMayGo : Type 0
SomeoneMayGo =
    (events : List Event) (d : Drive) (agent : ℕ) → IsReached events d → d.nofollow ≡ true → agent < length d.vehicles →
    reached d agent < clock d → SomeoneGoes d

-- a vehicle whose next step leads away from its place is under way or may go on
pub record SomeoneMoves (d : Drive) : Type 0 where
  pub agent : ℕ
  pub known : agent < length d.vehicles
  pub behind : reached d agent < clock d
  pub away : planned d agent (reached d agent + 1) ≢ place d agent
  pub goes : IsUnderWay d agent ⊎ MayStart d agent

-- no vehicle has yet to pass a step that stays at its place
abbrev pub IsSettled : Drive → Type 0
IsSettled d = (agent : ℕ) → agent < length d.vehicles → reached d agent < clock d → planned d agent (reached d agent + 1) ≢ place d agent

-- Where steps that stay have been passed, and one is behind the clock, somebody truly moves or may do so.
abbrev pub SomeoneTrulyMoves : Type 0
SomeoneTrulyMoves =
    (events : List Event) (d : Drive) (agent : ℕ) → IsReached events d → d.nofollow ≡ true → IsSettled d → agent < length d.vehicles →
    reached d agent < clock d → SomeoneMoves d

-- A step that stays at its cell may always be told.
abbrev pub StayingIsFree : Type 0
StayingIsFree =
    (events : List Event) (d : Drive) (agent : ℕ) → IsReached events d → HasStep d agent → next d agent ≡ planned d agent (told d agent) →
    MayStart d agent

-- Among the agents of a ring each enters, at the time, the cell of another of them.
pub record Enters (d : Drive) (time : ℕ) (ring : ℕ → Bool) (agent : ℕ) : Type 0 where
  pub other : ℕ
  pub within : ring other ≡ true
  pub known : other < length d.vehicles
  pub differ : other ≢ agent
  pub entered : planned d agent (time + 1) ≡ planned d other time

pub record IsRing (d : Drive) (time : ℕ) (ring : ℕ → Bool) : Type 0 where
  pub before : time < clock d
  pub known : (agent : ℕ) → ring agent ≡ true → agent < length d.vehicles
  pub enters : (agent : ℕ) → ring agent ≡ true → Enters d time ring agent

-- A ring stands for ever: none of its vehicles is ever told to go on from there, whatever the delays.
abbrev pub RingsStand : Type 0
RingsStand =
    (events : List Event) (d : Drive) (time : ℕ) (ring : ℕ → Bool) (agent : ℕ) → IsReached events d → IsRing d time ring → ring agent ≡ true →
    told d agent ≤ time

-- a ring of somebody
pub record HasRing (d : Drive) : Type 0 where
  pub time : ℕ
  pub ring : ℕ → Bool
  pub is_ring : IsRing d time ring
  pub agent : ℕ
  pub within : ring agent ≡ true

-- Only a ring stands: where a vehicle is behind the clock, one is under way or may go on, or there is a ring.
abbrev pub OnlyRingsStand : Type 0
OnlyRingsStand =
    (events : List Event) (d : Drive) (agent : ℕ) → IsReached events d → agent < length d.vehicles → reached d agent < clock d →
    SomeoneGoes d ⊎ HasRing d

-- nothing happens but that vehicles are told to go on and arrive
abbrev pub OnlyGo : List Event → Type 0
OnlyGo [] = Unit {0}
OnlyGo (Start agent ∷ events) = OnlyGo events
OnlyGo (Arrive agent step ∷ events) = OnlyGo events
OnlyGo (Tick cells ∷ events) = ⊥

-- how many cells the vehicles are still to be told, and how many still to arrive at
abbrev pub remaining : Drive → ℕ
remaining d = sum_by (λ (v : Vehicle). (clock d - v.told) + (clock d - v.reached)) d.vehicles

-- Runs are bounded: while the plan stays, each event uses up one of what remains.
abbrev pub RunsAreBounded : Type 0
RunsAreBounded =
    (events : List Event) (old : Drive) (later : List Event) (new : Drive) → IsReached events old → OnlyGo later → Run old later new →
    length later + remaining new ≡ remaining old

-- Where nobody follows, a run that cannot go on has all vehicles at the clock.
abbrev pub WhoStopsHasArrived : Type 0
WhoStopsHasArrived =
    (events : List Event) (d : Drive) (agent : ℕ) → IsReached events d → d.nofollow ≡ true → ((i : ℕ) → ¬ MayStart d i) →
    ((i step : ℕ) → ¬ MayArrive d i step) → agent < length d.vehicles → reached d agent ≡ clock d

-- all vehicles may come to the clock: a run of starts and arrivals leads there
pub record MayAllArrive (d : Drive) : Type 0 where
  pub events : List Event
  pub only : OnlyGo events
  pub end : Drive
  pub run : Run d events end
  pub clock_stays : clock end ≡ clock d
  pub arrived : (agent : ℕ) → agent < length d.vehicles → reached end agent ≡ clock d

-- Where nobody follows, whatever the delays were so far, all vehicles may come to the clock.
abbrev pub AllMayArrive : Type 0
AllMayArrive = (events : List Event) (d : Drive) → IsReached events d → d.nofollow ≡ true → MayAllArrive d
