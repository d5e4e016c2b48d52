-- what a snapshot tells, a front can tell; and it tells the state of the book
use Rattle.std.proofs.Common.{◌≡◌, ℕ, ◌<◌, ◌≤◌, ◌^◌, ◌∙◌, Bool, true, false, List, [], ◌∷◌, ◌++◌, length, map, cond, sym, ap, subst, refl, arith, length-append, lit<}
use Prim.Native.Nat.{suc}
use Rattle.std.specs.Prelude.{Option, Some, None, slice_get, filter}
use Rattle.std.specs.List.{AllByRecursion}
use Rattle.std.proofs.lemmas.List.{length-map, nil_from_length}
use Rattle.std.proofs.lemmas.Option.{get_or_from_slice_get, slice_get_within}
use Rattle.wh_grid.specs.declared.cell.Cell.{Cell}
use Rattle.wh_points.specs.Points.{Site}
use Rattle.wh_tasks.specs.declared.task.Task.{Task}
use Rattle.wh_event.specs.declared.entry.Entry.{Entry}
use Rattle.wh_event.specs.declared.reply.Reply.{Reply}
use Rattle.wh_core.specs.States.{State}
use Rattle.wh_core.specs.Steps.{Run}
use Rattle.wh_core.specs.Laws.{accepted, accepted_by, IsSound, IsSoundTask, IsBeginning, IsReached}
use Rattle.wh_core.proofs.Numbers.{numbers-run}
use Rattle.wh_core.proofs.Sound.{sound-reached, beginning-reached}
use Rattle.wh_log.specs.Ranges.{IsClock}
use Rattle.wh_log.proofs.Fronts.{all_append}
use Rattle.wh_book.specs.Drafts.{Seen}
use Rattle.wh_stand.specs.Parts.{Parts, state_of, parts_of}
use Rattle.wh_stand.proofs.Soundness.{parts_tell_the_state}
use Rattle.wh_front.specs.declared.front.Front.{Front}
use Rattle.wh_front.specs.declared.front.Seat.{Seat}
use Rattle.wh_front.specs.declared.front.Submission.{Submission}
use Rattle.wh_front.specs.declared.front.Count.{Count}
use Rattle.wh_front.specs.Fronts.{Fits}
use Rattle.wh_front.specs.Ranges.{BeforeFits, RulesFit, CountsFit, SeatFits, SubmissionFits, TaskFits, WhoFits}
use Rattle.wh_snapshot.specs.Snapshots.{is_accepted, submitters, told_parts, callers_told, counts_told, CanCount, AreCallers, HaveCallers, IsSnapshot}
use Rattle.wh_snapshot.specs.Kept.{IsTyped}
use Rattle.wh_snapshot.proofs.Counting.{counts_fit}

-- ---- the submitters
abbrev caller : Entry → ℕ
caller entry = entry.caller

one_count : (reply : Reply) (entry : Entry) (rest : List Entry) (numbers : List ℕ) → length (map caller rest) ≡ length numbers →
    length (map caller (cond (is_accepted reply) (entry ∷ rest) rest)) ≡ length (accepted_by reply numbers)
one_count (Reply.Accepted n) entry rest numbers e = ap suc e
one_count reply entry rest numbers e = e

same_count : (history : List Entry) → length (submitters history) ≡ length (accepted history)
same_count [] = refl
same_count (entry ∷ history) = one_count entry.reply entry (filter (λ (e : Entry). is_accepted e.reply) history) (accepted history) (same_count history)

-- each task has its submitter
pub as_many : (site : Site) (opening : State) (history : List Entry) (state : State) (had : List ℕ) → Run site opening history state → length had ≡ length opening.tasks →
    length (had ++ submitters history) ≡ length state.tasks
as_many site opening history state had run first =
    let all = length-append had (submitters history) in
    let new = same_count history in
    let last = (numbers-run site opening history state run).count in
    omega (arith, all, new, last, first)

-- each agent has its slots
pub as_seats : (site : Site) (opening : State) (history : List Entry) (state : State) → IsBeginning site opening → Run site opening history state →
    length state.slots ≡ length state.paths
as_seats site opening history state begins run =
    let seats = (sound-reached site history state (record { opening = opening; is_beginning = begins; run = run })).seats in
    let slots = seats.slots in
    let paths = seats.paths in
    omega (arith, slots, paths)

one_fits : (entry : Entry) (rest : List Entry) (is : Bool) → entry.caller < 64 → AreCallers (map caller rest) → AreCallers (map caller (cond is (entry ∷ rest) rest))
one_fits entry rest true fits rest_fit = (fits, rest_fit)
one_fits entry rest false fits rest_fit = rest_fit

submitters_fit : (history : List Entry) → HaveCallers history → AreCallers (submitters history)
submitters_fit [] fit = tt
submitters_fit (entry ∷ history) fit = one_fits entry (filter (λ (e : Entry). is_accepted e.reply) history) (is_accepted entry.reply) fit.0 (submitters_fit history fit.1)

-- ---- the tasks
each_all : {X : Type 0} (P : X → Type 0) (xs : List X) → ((i : ℕ) (x : X) → slice_get xs i ≡ Some x → P x) → AllByRecursion P xs
each_all P [] each = tt
each_all P (x ∷ xs) each = (each 0 x refl, each_all P xs (λ i y found. each (suc i) y found))

who_fits : (agent : Option ℕ) (visits : List ℕ) → (agent ≡ None → length visits ≡ 0) → ((a : ℕ) → agent ≡ Some a → a < 10 ^ 9) → WhoFits agent visits
who_fits None visits fresh known = nil_from_length visits (fresh refl)
who_fits (Some a) visits fresh known = known a refl

task_fits : (site : Site) (s : State) → IsSound site s → length s.paths ≤ 256 → (task : Task) → IsSoundTask site s task → IsTyped task → TaskFits task
task_fits site s sound few task fit typed =
    let most = sound.clock_fits in
    let limit : 256 < 10 ^ 9 = lit< tt in
    record {
      client = typed.client;
      submitted = (let e = fit.timed.submitted in omega (arith, e, most));
      who = who_fits task.agent task.visits fit.fresh (λ a is. (let known = fit.known a is in omega (arith, known, few, limit)));
      clocks = each_all IsClock task.visits (λ i clock found.
          (let late = fit.timed.last i (slice_get_within task.visits i clock found) in
          let at = get_or_from_slice_get task.visits i clock 0 found in
          omega (arith, late, at, most)));
      few = fit.few;
      two = fit.stops.count;
      eight = fit.stops.few;
      cells = typed.stops;
    }

submissions_fit : (Holds : Task → Type 0) (submissions : List Submission) → ((task : Task) → Holds task → IsTyped task → TaskFits task) →
    AreCallers (map (λ (s : Submission). s.caller) submissions) → AllByRecursion Holds (map (λ (s : Submission). s.task) submissions) → AllByRecursion (λ (s : Submission). IsTyped s.task) submissions →
    AllByRecursion SubmissionFits submissions
submissions_fit Holds [] fits callers tasks typed = tt
submissions_fit Holds (s ∷ submissions) fits callers tasks typed =
    ((callers.0, fits s.task tasks.0 typed.0), submissions_fit Holds submissions fits callers.1 tasks.1 typed.1)

-- ---- the front
pub snapshot_told : (had_callers : List ℕ) (had_counts : List Count) (book : Seen) (front : Front) (history : List Entry) (callers : List ℕ) (paths : List (List Cell)) (slots : List ℕ) (tasks : List Task) →
    history ≡ book.history → paths ≡ book.state.paths → slots ≡ book.state.slots → tasks ≡ book.state.tasks → callers ≡ had_callers ++ submitters history →
    front.clock ≡ book.state.clock → front.closed ≡ book.state.closed → (told_parts front).paths ≡ paths → (told_parts front).slots ≡ slots → (told_parts front).tasks ≡ tasks →
    callers_told front ≡ callers → front.counts ≡ counts_told had_counts history → IsSnapshot had_callers had_counts book front
snapshot_told had_callers had_counts book front history callers paths slots tasks same all_paths all_slots all_tasks all_callers clock closed told_paths told_slots told_tasks told_callers told_counts = record {
  clock = clock;
  closed = closed;
  paths = told_paths ∙ all_paths;
  slots = told_slots ∙ all_slots;
  tasks = told_tasks ∙ all_tasks;
  callers = told_callers ∙ all_callers ∙ ap (λ (entries : List Entry). had_callers ++ submitters entries) same;
  counts = told_counts ∙ ap (λ (entries : List Entry). counts_told had_counts entries) same;
}

pub front_fits : (had_callers : List ℕ) (had_counts : List Count) (book : Seen) (front : Front) → IsBeginning book.site book.opening → Run book.site book.opening book.history book.state →
    length book.state.paths ≤ 256 → 1 ≤ length book.site.layout.agents → BeforeFits front.before → RulesFit front.rules → CanCount had_counts book.history →
    AreCallers had_callers → HaveCallers book.history → IsSnapshot had_callers had_counts book front → AllByRecursion SeatFits front.seats →
    AllByRecursion (λ (s : Submission). IsTyped s.task) front.tasks → Fits front
front_fits had_callers had_counts book front begins run few some before rules can callers entries is seats typed =
    let sound = sound-reached book.site book.history book.state (record { opening = book.opening; is_beginning = begins; run = run }) in
    let Holds : Task → Type 0 = IsSoundTask book.site book.state in
    let all : AllByRecursion Holds book.state.tasks = each_all Holds book.state.tasks (λ n task found. sound.tasks n task found) in
    let told : AllByRecursion Holds (told_parts front).tasks = subst (λ (tasks : List Task). AllByRecursion Holds tasks) (sym is.tasks) all in
    let named : AreCallers (callers_told front) =
    subst AreCallers (sym is.callers) (all_append (λ (n : ℕ). n < 64) had_callers (submitters book.history) callers (submitters_fit book.history entries)) in
    let as_agents : length front.seats ≡ length book.state.paths = sym (length-map front.seats (λ (seat : Seat). seat.path)) ∙ ap (λ (paths : List (List Cell)). length paths) is.paths in
    let as_tasks : length front.tasks ≡ length book.state.tasks = sym (length-map front.tasks (λ (s : Submission). s.task)) ∙ ap (λ (tasks : List Task). length tasks) is.tasks in
    let all_seats = sound.seats.paths in
    let few_tasks = sound.few in
    let early = sound.clock_fits in
    let clock = is.clock in
    record {
      before = before;
      rules = rules;
      clock = omega (arith, early, clock);
      counts = subst CountsFit (sym is.counts) (counts_fit had_counts book.history can);
      agents = (omega (arith, as_agents, all_seats, some), omega (arith, as_agents, few));
      seats = seats;
      few = omega (arith, as_tasks, few_tasks);
      tasks = submissions_fit Holds front.tasks (task_fits book.site book.state sound few) named told typed;
    }

-- ---- the state
abbrev made : ℕ → Bool → List (List Cell) → List ℕ → List Task → Parts
made clock closed paths slots tasks = record { clock = clock; closed = closed; paths = paths; slots = slots; tasks = tasks }

parts_same : (a b : Parts) → a.clock ≡ b.clock → a.closed ≡ b.closed → a.paths ≡ b.paths → a.slots ≡ b.slots → a.tasks ≡ b.tasks → a ≡ b
parts_same a b clock closed paths slots tasks =
    ap (λ x. made x a.closed a.paths a.slots a.tasks) clock ∙ ap (λ x. made b.clock x a.paths a.slots a.tasks) closed ∙ ap (λ x. made b.clock b.closed x a.slots a.tasks) paths
    ∙ ap (λ x. made b.clock b.closed b.paths x a.tasks) slots ∙ ap (λ x. made b.clock b.closed b.paths b.slots x) tasks

pub front_state : (had_callers : List ℕ) (had_counts : List Count) (book : Seen) (front : Front) → IsBeginning book.site book.opening → Run book.site book.opening book.history book.state →
    IsSnapshot had_callers had_counts book front → state_of (told_parts front) ≡ book.state
front_state had_callers had_counts book front begins run is =
    let reached : IsReached book.site book.history book.state = record { opening = book.opening; is_beginning = begins; run = run } in
    let may = beginning-reached book.site book.history book.state reached in
    ap (λ (parts : Parts). state_of parts) (parts_same (told_parts front) (parts_of book.state) is.clock is.closed is.paths is.slots is.tasks)
    ∙ sym (parts_tell_the_state book.site book.state may)
