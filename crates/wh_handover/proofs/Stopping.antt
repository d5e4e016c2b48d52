-- what is due where vehicles were stopped
use Rattle.std.proofs.Common.{◌≡◌, ◌≤◌, ℕ, List, [], ◌∷◌, map, take, length, zero, suc, refl, sym, ap, ◌∙◌, subst, arith}
use Rattle.std.specs.Prelude.{Option, None, Some}
use Rattle.std.specs.Option.{option_map}
use Rattle.std.specs.List.{slice_get}
use Rattle.std.proofs.lemmas.List.{length-map}
use Rattle.std.proofs.lemmas.Option.{slice_get-map}
use Rattle.wh_grid.specs.declared.cell.Cell.{Cell}
use Rattle.wh_core.specs.States.{State}
use Rattle.wh_core.specs.Stopping.{made_of}
use Rattle.wh_tasks.specs.declared.task.Task.{Task}
use Rattle.wh_tasks.specs.Tasks.{visited}
use Rattle.wh_front.specs.declared.front.Front.{Front}
use Rattle.wh_front.specs.declared.front.Seat.{Seat}
use Rattle.wh_front.specs.declared.front.Submission.{Submission}
use Rattle.wh_front.specs.declared.rules.Kind.TheVariants as kind
use Rattle.wh_front.specs.Fronts.{Fits, front_text}
use Rattle.wh_front.specs.Ranges.{CellFits, SeatFits, SubmissionFits, IsAgents, IsTasks}
use Rattle.wh_handover.specs.Chains as chains
use Rattle.wh_handover.specs.Chains.{as_far_as, at_rest_as, due_by, match_with, matched}
use Rattle.wh_handover.proofs.Matching.{all_matched, length_matched, matched_at}
use Rattle.wh_handover.proofs.Stops.{first_of_all, made_fits}
use Rattle.wh_handover.proofs.Joining.{one_text, opening_told}

one_left : (path : List Cell) → 1 ≤ length path → 1 ≤ length (take 1 path)
one_left [] some = some
one_left (cell ∷ path) some = omega arith

rests_fit : (seat other : Seat) → SeatFits seat → SeatFits other → SeatFits (at_rest_as seat other)
rests_fit seat other fits others = record { slots = fits.slots; some = one_left other.path others.some; cells = first_of_all CellFits other.path 1 others.cells }

far_fit : (told other : Submission) → SubmissionFits told → SubmissionFits other → SubmissionFits (as_far_as told other)
far_fit told other fits others = (fits.0, made_fits (visited other.task) told.task fits.1)

stopped_fits : (whole front : Front) → Fits whole → Fits front → Fits (due_by kind.Stopped whole front)
stopped_fits whole front fits others = record {
  before = fits.before;
  rules = fits.rules;
  clock = fits.clock;
  counts = fits.counts;
  agents = subst IsAgents (sym (length_matched at_rest_as whole.seats front.seats)) fits.agents;
  seats = all_matched SeatFits at_rest_as whole.seats front.seats rests_fit fits.seats others.seats;
  few = subst IsTasks (sym (length_matched as_far_as whole.tasks front.tasks)) fits.few;
  tasks = all_matched SubmissionFits as_far_as whole.tasks front.tasks far_fit fits.tasks others.tasks;
}

some_same : {X : Type 0} (x y : X) → Some x ≡ Some y → x ≡ y
some_same x y e = cc

-- of a list that is as far as another each item is so
far_at : (tasks others : List Submission) → others ≡ matched as_far_as tasks others → (n : ℕ) (s : Submission) → slice_get tasks n ≡ Some s
    → (seen : ℕ) × (slice_get (map (λ (t : Submission). t.task) others) n ≡ Some (made_of seen s.task))
far_at tasks others is n s there = by (slice_get others n) refl
  where
    here : slice_get others n ≡ Some (match_with as_far_as s (slice_get others n))
    here = ap (λ (ts : List Submission). slice_get ts n) is ∙ matched_at as_far_as tasks others n s there

    by : (other : Option Submission) → slice_get others n ≡ other → (seen : ℕ) × (slice_get (map (λ (t : Submission). t.task) others) n ≡ Some (made_of seen s.task))
    by None e = let bad = sym e ∙ here in cc
    by (Some other) e =
        let found : slice_get others n ≡ Some (as_far_as s other) = here ∙ ap (λ o. Some (match_with as_far_as s o)) e in
        (visited other.task, slice_get-map (λ (t : Submission). t.task) others n ∙ ap (λ o. option_map (λ (t : Submission). t.task) o) found)

submitted_at : (tasks : List Submission) (n : ℕ) (task : Task) → slice_get (map (λ (t : Submission). t.task) tasks) n ≡ Some task → (s : Submission) × (slice_get tasks n ≡ Some s) × (s.task ≡ task)
submitted_at [] n task e = cc
submitted_at (s ∷ tasks) zero task e = (s, refl, some_same s.task task e)
submitted_at (s ∷ tasks) (suc n) task e = submitted_at tasks n task e

pub stopped_joins_keep_tasks : chains.StoppedJoinsKeepTasks
stopped_joins_keep_tasks site first second whole led other (front, rest, fits, is, same, kind_is) tells =
    let is_stopped : front.kind ≡ kind.Stopped = sym (some_same kind.Stopped front.kind kind_is) in
    let text_is : front_text (due_by kind.Stopped whole front) ≡ front_text front = subst (λ k. front_text (due_by k whole front) ≡ front_text front) is_stopped same in
    let one = one_text (due_by kind.Stopped whole front) front (stopped_fits whole front led.fits fits) fits text_is in
    let tasks : front.tasks ≡ matched as_far_as whole.tasks front.tasks = sym (ap (λ (f : Front). f.tasks) one) in
    let opening : other.opening.tasks ≡ map (λ (t : Submission). t.task) front.tasks = ap (λ (s : State). s.tasks) (opening_told site second rest front other fits is tells.holds) in
    let had : map (λ (t : Submission). t.task) whole.tasks ≡ led.state.tasks = ap (λ (s : State). s.tasks) led.state_is in (
      ap (λ (ts : List Task). length ts) opening ∙ length-map front.tasks (λ (t : Submission). t.task) ∙ ap (λ (ts : List Submission). length ts) tasks ∙ length_matched as_far_as whole.tasks front.tasks
          ∙ sym (length-map whole.tasks (λ (t : Submission). t.task)) ∙ ap (λ (ts : List Task). length ts) had,
      λ n task there.
          let (s, at, task_is) = submitted_at whole.tasks n task (ap (λ (ts : List Task). slice_get ts n) had ∙ there) in
          let far = far_at whole.tasks front.tasks tasks n s at in
          (far.0, ap (λ (ts : List Task). slice_get ts n) opening ∙ far.1 ∙ ap (λ t. Some (made_of far.0 t)) task_is),
    )
