-- what a report is answered, and when the clock may not go on
use Rattle.std.specs.Prelude.{◌≡◌, ℕ, ◌-◌, ◌<◌, ◌≤◌, max, List, [], ◌∷◌, length}
use Rattle.wh_drive.specs.Drives.{Drive, reached, told}
use Rattle.wh_drive.specs.Runs.{Event, Start, Arrive, Tick, Run}
use Rattle.wh_order.specs.Orders.{Order, reached_of, IsFurthestBack}
use Rattle.wh_vehicles.specs.declared.report.Report.{Report}
use Rattle.wh_vehicles.specs.declared.notice.Notice.{Notice}
use Rattle.wh_vehicles.specs.declared.notice.Notice.TheVariants.{Arrived, Visited, Go, Behind, UnknownAgent, NotTold}

-- nothing happens but that the agent's vehicle arrives
abbrev pub OnlyArrives : ℕ → List Event → Type 0
OnlyArrives agent [] = Unit {0}
OnlyArrives agent (Arrive other step ∷ events) = (other ≡ agent) × OnlyArrives agent events
OnlyArrives agent (Start other ∷ events) = ⊥
OnlyArrives agent (Tick cells ∷ events) = ⊥

-- The vehicle has arrived at each step up to this one; if it had come as far before, nothing has happened.
pub record HasArrived (old : Drive) (agent step : ℕ) (new : Drive) : Type 0 where
  pub events : List Event
  pub only : OnlyArrives agent events
  pub run : Run old events new
  pub reached_is : reached new agent ≡ max (reached old agent) step

-- The reply to a report, and where it leads: of an agent that is unknown or a step that was not told nothing changes;
-- of a step that was told the vehicle has arrived there, and so at each step before.
abbrev pub AnswersReport : Drive → Report → Notice → Drive → Type 0
AnswersReport old r (UnknownAgent agent) new = (agent ≡ r.agent) × (length old.vehicles ≤ r.agent) × (new ≡ old)
AnswersReport old r (NotTold agent step) new =
    (agent ≡ r.agent) × (step ≡ r.step) × (r.agent < length old.vehicles) × (told old r.agent < r.step) × (new ≡ old)
AnswersReport old r (Arrived agent step) new =
    (agent ≡ r.agent) × (step ≡ r.step) × (r.agent < length old.vehicles) × (r.step ≤ told old r.agent) × HasArrived old r.agent r.step new
AnswersReport old r (Visited agent task visit) new = ⊥
AnswersReport old r (Go agent step cell) new = ⊥
AnswersReport old r (Behind agent steps) new = ⊥

-- The vehicle furthest behind is this many steps behind, which is at least the bound.
abbrev pub TellsLate : Order → ℕ → Notice → Type 0
TellsLate o bound (Behind agent steps) = IsFurthestBack o.vehicles agent × (steps ≡ o.clock - reached_of o.vehicles agent) × (bound ≤ steps)
TellsLate o bound (UnknownAgent agent) = ⊥
TellsLate o bound (NotTold agent step) = ⊥
TellsLate o bound (Arrived agent step) = ⊥
TellsLate o bound (Visited agent task visit) = ⊥
TellsLate o bound (Go agent step cell) = ⊥

-- each vehicle is fewer steps behind than the bound
abbrev pub NoneIsLate : Order → ℕ → Type 0
NoneIsLate o bound = (agent : ℕ) → agent < length o.vehicles → o.clock - reached_of o.vehicles agent < bound
