-- what was stopped keeps the ranges of a front
use Rattle.std.proofs.Common.{◌≡◌, ◌≤◌, ℕ, List, [], ◌∷◌, map, take, length, zero, suc, refl, sym, ap, ◌∙◌, subst, arith, Option, None, Some}
use Rattle.std.specs.List.{AllByRecursion}
use Rattle.std.proofs.lemmas.List.{length-map}
use Rattle.wh_tasks.specs.declared.task.Task.{Task}
use Rattle.wh_core.specs.Stopping.{agent_after, made_of}
use Rattle.wh_log.specs.Ranges.{IsClock}
use Rattle.wh_front.specs.declared.front.Front.{Front}
use Rattle.wh_front.specs.declared.front.Seat.{Seat}
use Rattle.wh_front.specs.declared.front.Submission.{Submission}
use Rattle.wh_front.specs.Fronts.{Fits}
use Rattle.wh_front.specs.Ranges.{SeatFits, SubmissionFits, TaskFits, WhoFits, BeforeFits, RulesFit, CountsFit, IsAgents, IsTasks}
use Rattle.wh_handover.specs.Stopped.{made_in, stopped_submission}

pub first_of_all : {X : Type 0} (P : X → Type 0) (xs : List X) (count : ℕ) → AllByRecursion P xs → AllByRecursion P (take count xs)
first_of_all P xs zero all = tt
first_of_all P [] (suc count) all = tt
first_of_all P (x ∷ xs) (suc count) all = (all.0, first_of_all P xs count all.1)

few_taken : (count : ℕ) (xs : List ℕ) (most : ℕ) → length xs ≤ most → length (take count xs) ≤ most
few_taken zero xs most few = omega arith
few_taken (suc count) [] most few = few
few_taken (suc count) (x ∷ xs) zero few = absurd (omega (arith, few))
few_taken (suc count) (x ∷ xs) (suc most) few =
    let less : length xs ≤ most = omega (arith, few) in
    let rest = few_taken count xs most less in
    omega (arith, rest)

who_made : (made : ℕ) (agent : Option ℕ) (visits : List ℕ) → WhoFits agent visits → WhoFits (agent_after made agent) (take made visits)
who_made zero agent visits fits = refl
who_made (suc made) None visits fits = ap (take (suc made)) fits
who_made (suc made) (Some agent) visits fits = fits

pub made_fits : (made : ℕ) (task : Task) → TaskFits task → TaskFits (made_of made task)
made_fits made task fits = record {
  client = fits.client;
  submitted = fits.submitted;
  who = who_made made task.agent task.visits fits.who;
  clocks = first_of_all IsClock task.visits made fits.clocks;
  few = few_taken made task.visits (length task.stops) fits.few;
  two = fits.two;
  eight = fits.eight;
  cells = fits.cells;
}

tasks_fit : (first : ℕ) (steps : List ℕ) (tasks : List Submission) → AllByRecursion SubmissionFits tasks → AllByRecursion SubmissionFits (map (stopped_submission first steps) tasks)
tasks_fit first steps [] all = tt
tasks_fit first steps (told ∷ more) all = ((all.0.0, made_fits (made_in first steps told.task) told.task all.0.1), tasks_fit first steps more all.1)

pub stopped_fits : (first : ℕ) (steps : List ℕ) (whole front : Front) → Fits whole → front.before ≡ whole.before → front.rules ≡ whole.rules → front.clock ≡ whole.clock → front.counts ≡ whole.counts →
    map (λ (seat : Seat). seat.slots) front.seats ≡ map (λ (seat : Seat). seat.slots) whole.seats → AllByRecursion SeatFits front.seats → front.tasks ≡ map (stopped_submission first steps) whole.tasks → Fits front
stopped_fits first steps whole front fits before rules clock counts slots seats tasks =
    let many : length front.seats ≡ length whole.seats =
    sym (length-map front.seats (λ (seat : Seat). seat.slots)) ∙ ap length slots ∙ length-map whole.seats (λ (seat : Seat). seat.slots) in
    let few : length front.tasks ≡ length whole.tasks = ap length tasks ∙ length-map whole.tasks (stopped_submission first steps) in
    record {
      before = subst BeforeFits (sym before) fits.before;
      rules = subst RulesFit (sym rules) fits.rules;
      clock = subst IsClock (sym clock) fits.clock;
      counts = subst CountsFit (sym counts) fits.counts;
      agents = subst IsAgents (sym many) fits.agents;
      seats = seats;
      few = subst IsTasks (sym few) fits.few;
      tasks = subst (AllByRecursion SubmissionFits) (sym tasks) (tasks_fit first steps whole.tasks fits.tasks);
    }
