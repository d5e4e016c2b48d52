-- the tasks that are kept stand in the book, and their agents have vehicles
use Rattle.std.proofs.Common.{◌≡◌, ℕ, ◌∙◌, List, [], ◌∷◌, length, subst, ap, arith}
use Rattle.std.specs.Prelude.{Contains}
use Rattle.std.proofs.lemmas.List.{length-set}
use Rattle.wh_tasks.specs.declared.task.Task.{Task}
use Rattle.wh_core.proofs.Sound.{kept-reached}
use Rattle.wh_book.specs.Drafts.{Seen}
use Rattle.wh_drive.specs.declared.vehicle.Vehicle.{Vehicle}
use Rattle.wh_drive.specs.Drives.{Drive}
use Rattle.wh_drive.specs.Runs.{Event, Start, Arrive, Tick, Run}
use Rattle.wh_order.specs.Orders.{Represents}
use Rattle.wh_order.specs.Settling.{Settles}
use Rattle.wh_vehicles.specs.Driving.{AnswersReport}
use Rattle.wh_vehicles.specs.Visits.{HasMade}
use Rattle.wh_vehicles.specs.declared.report.Report.{Report}
use Rattle.wh_vehicles.specs.declared.notice.Notice.{Notice}
use Rattle.wh_vehicles.specs.declared.notice.Notice.TheVariants.{Arrived, Visited, Go, Behind, UnknownAgent, NotTold}
use Rattle.wh_dispatch.specs.declared.visits.Pending.{Pending}
use Rattle.wh_dispatch.specs.Crews.{Crew}
use Rattle.wh_dispatch.specs.Visiting.{IsStanding, SomeStanding}
use Rattle.wh_dispatch.specs.Scripts.{SomeManned}
use Rattle.wh_dispatch.proofs.Happening.{fleet}
use Rattle.wh_dispatch.proofs.Watching.{standing}

-- a run of vehicles keeps their number
run_size : (d : Drive) (events : List Event) (e : Drive) → Run d events e → length e.vehicles ≡ length d.vehicles
run_size d [] e run = ap (λ (f : Drive). length f.vehicles) run
run_size d (Start agent ∷ events) e run = run_size run.0 events e run.2 ∙ ap (λ (f : Drive). length f.vehicles) run.1.1 ∙ length-set d.vehicles agent _
run_size d (Arrive agent step ∷ events) e run = run_size run.0 events e run.2 ∙ ap (λ (f : Drive). length f.vehicles) run.1.1 ∙ length-set d.vehicles agent _
run_size d (Tick cells ∷ events) e run = run_size run.0 events e run.2 ∙ ap (λ (f : Drive). length f.vehicles) run.1.1

stand_as : (tasks : List Task) (n m : ℕ) (ps qs : List Pending) → m ≡ n → qs ≡ ps → ((p : Pending) → Contains ps p → IsStanding tasks n p) → (p : Pending) → Contains qs p → IsStanding tasks m p
stand_as tasks n m ps qs e same stand p c =
    let s = stand p (subst (λ (xs : List Pending). Contains xs p) same c) in
    let known = s.known in
    record { task = s.task; is_task = s.is_task; known = omega arith; told = s.told }

-- the tasks that are kept stand, after vehicles have gone on
pub stand_settled : (book : Seen) (old new : Crew) → (s : SomeStanding book old) → Settles s.drive new.order [] new.told → new.pending ≡ old.pending →
    (p : Pending) → Contains new.pending p → IsStanding book.state.tasks (length new.order.vehicles) p
stand_settled book old new s settles same =
    let size = run_size s.drive settles.events settles.end settles.run in
    let here = ap (λ (vs : List Vehicle). length vs) settles.represents.vehicles in
    stand_as book.state.tasks (length s.drive.vehicles) (length new.order.vehicles) old.pending new.pending (omega arith) same s.stand

answers_size : (d : Drive) (report : Report) (notice : Notice) (e : Drive) → AnswersReport d report notice e → length e.vehicles ≡ length d.vehicles
answers_size d report (UnknownAgent agent) e a = ap (λ (f : Drive). length f.vehicles) a.2
answers_size d report (NotTold agent step) e a = ap (λ (f : Drive). length f.vehicles) a.4
answers_size d report (Arrived agent step) e a = run_size d a.4.events e a.4.run
answers_size d report (Visited agent task visit) e a = absurd a
answers_size d report (Go agent step cell) e a = absurd a
answers_size d report (Behind agent steps) e a = absurd a

-- after a report was answered
pub stand_heard : (book : Seen) (old new : Crew) (report : Report) (notice : Notice) → (s : SomeStanding book old) → (e : Drive) → AnswersReport s.drive report notice e → Represents new.order e →
    new.pending ≡ old.pending → SomeStanding book new
stand_heard book old new report notice s e answers rep same =
    record { drive = e; represents = rep; stand = stand_as book.state.tasks (length s.drive.vehicles) (length e.vehicles) old.pending new.pending (answers_size s.drive report notice e answers) same s.stand }

-- the tasks that are kept stand, where all is manned
pub standing_now : (book : Seen) (crew : Crew) → SomeManned book crew → SomeStanding book crew
standing_now book crew some =
    let d = some.0 in
    let m = some.1 in
    let c = m.in_step.carried in
    record {
      drive = d;
      represents = m.in_step.represents;
      stand = standing book.opening.clock book.state d (HasMade book.opening.clock (fleet book.state d)) crew.pending m.watched (length d.vehicles) c.come.all
          (kept-reached book.site book.history book.state c.state).working (λ v told. told);
    }
