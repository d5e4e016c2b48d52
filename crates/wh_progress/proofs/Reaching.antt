-- states that a run reaches, one step and one run further
use Rattle.std.proofs.Common.{◌≡◌, ◌≢◌, ◌-◌, ℕ, ◌≤◌, List, [], ◌∷◌, ◌++◌, false, length, get_or, refl, sym, ap, subst, arith, ◌∙◌, inl, inr}
use Rattle.std.specs.Prelude.{All, Contains}
use Rattle.std.proofs.lemmas.Bool.{false≢true, cases_Bool}
use Rattle.std.proofs.lemmas.Option.{slice_get_within, get_or_from_slice_get, slice_get-get_or}
use Rattle.wh_grid.specs.declared.cell.Cell.{Cell}
use Rattle.wh_path.specs.Paths.{cell_at}
use Rattle.wh_points.specs.Points.{Site}
use Rattle.wh_tasks.specs.declared.task.Task.{Task}
use Rattle.wh_tasks.specs.declared.task.Phase.{Phase}
use Rattle.wh_tasks.specs.Tasks.{IsTask, phase}
use Rattle.wh_core.specs.States.{State}
use Rattle.wh_core.specs.Steps.{Step, Run}
use Rattle.wh_core.specs.Laws.{IsReachedOnTheirWays, IsForward}
use Rattle.wh_event.specs.declared.entry.Entry.{Entry}
use Rattle.wh_core.proofs.StepKinds.{run-join}
use Rattle.wh_core.proofs.Clocks.{closed-run}
use Rattle.wh_core.proofs.Later.{AllLater, later-run, all_later-trans, all_later-same}
use Rattle.wh_progress.specs.Progress.{HaveAtMost, AreOfTwoPlaces, Rounds, AllDone}

pub reached-run : (site : Site) (before entries : List Entry) (s new : State) → IsReachedOnTheirWays site before s → Run site s entries new → IsReachedOnTheirWays site (before ++ entries) new
reached-run site before entries s new r run = record {
  reached = record {
    opening = r.reached.opening;
    is_beginning = r.reached.is_beginning;
    run = run-join site r.reached.opening before s entries new r.reached.run run;
  };
  on_their_ways = r.on_their_ways;
}

pub reached-step : (site : Site) (before : List Entry) (s : State) (entry : Entry) (new : State) → IsReachedOnTheirWays site before s → Step site s entry new →
    IsReachedOnTheirWays site (before ++ entry ∷ []) new
reached-step site before s entry new r step = reached-run site before (entry ∷ []) s new r (new, step, refl)

-- not closed in the end, and so not before
pub open-before : (site : Site) (old : State) (entries : List Entry) (new : State) → Run site old entries new → new.closed ≡ false → old.closed ≡ false
open-before site old entries new run opens = elim (cases_Bool old.closed) [
  | inr e ↦ e
  | inl closed ↦
      let same = (closed-run site old entries new closed run).0 in
      absurd (false≢true (sym opens ∙ ap (λ s. s.closed) same ∙ closed))
]

-- what holds of the stops of each task later holds of them before
pub stops-before : (P : List Cell → Type 0) (old new : State) → AllLater old.tasks new.tasks → All (λ task. P task.stops) new.tasks → All (λ task. P task.stops) old.tasks
stops-before P old new later all k d h =
    let there = slice_get-get_or old.tasks k d h in
    let on = later k (get_or old.tasks k d) there in
    let now : P on.0.stops = subst (λ (t : Task). P t.stops) (get_or_from_slice_get new.tasks k on.0 on.0 on.1) (all k on.0 (slice_get_within new.tasks k on.0 on.1)) in
    subst P on.2.stops now

pub few-before : (stops : ℕ) (old new : State) → AllLater old.tasks new.tasks → HaveAtMost stops new → HaveAtMost stops old
few-before stops old new later few = stops-before (λ c. length c ≤ stops) old new later few

pub rounds-later : (site : Site) (old : State) (rounds : List (List Entry)) (new : State) → Rounds site old rounds new → AllLater old.tasks new.tasks
rounds-later site old [] new run = all_later-same old.tasks new.tasks (ap (λ s. s.tasks) run)
rounds-later site old (round ∷ rounds) new run =
    all_later-trans old.tasks run.0.tasks new.tasks (later-run site old round run.0 run.1.run) (rounds-later site run.0 rounds new run.2)

-- done stays done
done-forward : (old new : Phase) → old ≡ Phase.Done → IsForward old new → new ≡ Phase.Done
done-forward Phase.Open new is forward = absurd (let clash : Phase.Open ≡ Phase.Done = is in cc)
done-forward Phase.Assigned new is forward = absurd (let clash : Phase.Assigned ≡ Phase.Done = is in cc)
done-forward Phase.Carried new is forward = absurd (let clash : Phase.Carried ≡ Phase.Done = is in cc)
done-forward Phase.Done Phase.Open is forward = absurd forward
done-forward Phase.Done Phase.Assigned is forward = absurd forward
done-forward Phase.Done Phase.Carried is forward = absurd forward
done-forward Phase.Done Phase.Done is forward = refl

pub done-at : (s : State) (n : ℕ) (task : Task) → AllDone s → IsTask s.tasks n task → phase task ≡ Phase.Done
done-at s n task done there =
    ap (λ t. phase t) (sym (get_or_from_slice_get s.tasks n task task there)) ∙ done n task (slice_get_within s.tasks n task there)

pub done-on : (old new : State) (n : ℕ) (task : Task) → AllLater old.tasks new.tasks → IsTask old.tasks n task → phase task ≡ Phase.Done →
    (later : Task) × IsTask new.tasks n later × (phase later ≡ Phase.Done)
done-on old new n task later there done =
    let on = later n task there in
    (on.0, on.1, done-forward (phase task) (phase on.0) done on.2.forward)

pub done-later : (old new : State) → AllLater old.tasks new.tasks → length new.tasks ≤ length old.tasks → AllDone old → AllDone new
done-later old new later few done k d h =
    let there = slice_get-get_or old.tasks k d (omega arith) in
    let on = later k (get_or old.tasks k d) there in
    let was = done k d (omega arith) in
    let now = done-forward (phase (get_or old.tasks k d)) (phase on.0) was on.2.forward in
    subst (λ t. phase t ≡ Phase.Done) (sym (get_or_from_slice_get new.tasks k on.0 d on.1)) now

-- no task is ever taken away
pub tasks-stay : (old new : List Task) → AllLater old new → length old ≤ length new
tasks-stay [] new later = omega arith
tasks-stay (t ∷ old) new later =
    let last = length old in
    let there = slice_get-get_or (t ∷ old) last t (omega arith) in
    let on = later last (get_or (t ∷ old) last t) there in
    let h = slice_get_within new last on.0 on.1 in
    omega arith

-- with no task added, what holds of the stops before holds of them later
pub stops-after : (P : List Cell → Type 0) (old new : State) → AllLater old.tasks new.tasks → length new.tasks ≡ length old.tasks →
    All (λ task. P task.stops) old.tasks → All (λ task. P task.stops) new.tasks
stops-after P old new later size all k d h =
    let there = slice_get-get_or old.tasks k d (omega arith) in
    let on = later k (get_or old.tasks k d) there in
    let same : get_or new.tasks k d ≡ on.0 = get_or_from_slice_get new.tasks k on.0 d on.1 in
    subst (λ (t : Task). P t.stops) (sym same) (subst P (sym on.2.stops) (all k d (omega arith)))

pub few-after : (stops : ℕ) (old new : State) → AllLater old.tasks new.tasks → length new.tasks ≡ length old.tasks → HaveAtMost stops old → HaveAtMost stops new
few-after stops old new later size few = stops-after (λ c. length c ≤ stops) old new later size few

-- the stops are at two cells at most
abbrev AtTwo : List Cell → Type 0
AtTwo stops = (c d : Cell) → Contains stops c → Contains stops d → c ≢ cell_at stops (length stops - 1) → d ≢ cell_at stops (length stops - 1) → c ≡ d

pub places-before : (old new : State) → AllLater old.tasks new.tasks → AreOfTwoPlaces new → AreOfTwoPlaces old
places-before old new later places = stops-before AtTwo old new later places

pub places-after : (old new : State) → AllLater old.tasks new.tasks → length new.tasks ≡ length old.tasks → AreOfTwoPlaces old → AreOfTwoPlaces new
places-after old new later size places = stops-after AtTwo old new later size places
