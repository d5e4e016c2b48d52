-- what a state keeps, after each change
use Rattle.std.proofs.Common.{◌≡◌, ℕ, ◌+◌, ◌<◌, ◌≤◌, List, [], ◌∷◌, ◌++◌, Bool, length, map, take, drop, remove, ap, sym, ◌∙◌, arith, refl, subst}
use Rattle.std.specs.Prelude.{Some, All, slice_get}
use Rattle.std.proofs.Math.ListN.{set}
use Rattle.std.proofs.lemmas.List.{length-map, length-set, map-set, take_at}
use Rattle.std.proofs.lemmas.List.Elements.{All-nil, All-push, All-set, All-get_or}
use Rattle.std.proofs.lemmas.Option.{slice_get_within, get_or_from_slice_get}
use Rattle.wh_grid.specs.declared.cell.Cell.{Cell}
use Prim.Native.Nat.{zero, suc}
use Rattle.wh_path.specs.Paths.{place_of, advanced, end, ends, others}
use Rattle.wh_path.proofs.AtLemmas.{at-one, end-advanced}
use Rattle.wh_tasks.specs.declared.task.Task.{Task}
use Rattle.wh_tasks.specs.declared.task.Load.{Load}
use Rattle.wh_tasks.specs.Tasks.{IsTask, IsOpen}
use Rattle.wh_tasks.specs.Arrivals.{arrived_tasks, arrived_load}
use Rattle.wh_tasks.specs.Changes.{fresh, assigned, IsInTime, IsOrderly}
use Rattle.wh_core.specs.States.{State}
use Rattle.wh_state.specs.Standings.{IsSound}
use Rattle.wh_state.proofs.Ties.{tied-opening, tied-submitted, tied-arrived, tied-assigned, in_time-fresh, in_time-later, in_time-arrived}

-- what a `Vec` holds after its elements were written as a slice
pub refilled : {X : Type 0} (n : ℕ) (new old : List X) → length new ≡ n → take n (new ++ drop (length new) old) ≡ new
refilled n new old long = take_at new (drop (length new) old) n long

pub same-state : (clock : ℕ) (closed : Bool) (paths paths' : List (List Cell)) (loads loads' : List Load) (slots : List ℕ) (tasks tasks' : List Task) →
    paths ≡ paths' → loads ≡ loads' → tasks ≡ tasks' →
    let left : State = record { clock = clock; closed = closed; paths = paths; loads = loads; slots = slots; tasks = tasks } in
    let right : State = record { clock = clock; closed = closed; paths = paths'; loads = loads'; slots = slots; tasks = tasks' } in
    left ≡ right
same-state clock closed paths paths' loads loads' slots tasks tasks' p q r = rw (p, q, r) refl

-- where paths end
ends-standing : (starts : List Cell) → starts ≡ ends (map (λ cell. cell ∷ []) starts)
ends-standing [] = refl
ends-standing (c ∷ cs) = ap (λ es. c ∷ es) (ends-standing cs) ∙ ap (λ d. d ∷ ends (map (λ cell. cell ∷ []) cs)) (sym (at-one c 0))

pub ends-advanced : (paths : List (List Cell)) → ends (map advanced paths) ≡ ends paths
ends-advanced [] = refl
ends-advanced (p ∷ ps) = ap (λ c. c ∷ ends (map advanced ps)) (end-advanced p) ∙ ap (λ es. end p ∷ es) (ends-advanced ps)

pub ends-others : (paths : List (List Cell)) (cells : List Cell) (agent : ℕ) → cells ≡ ends paths → remove cells agent ≡ ends (others paths agent)
ends-others paths cells agent e = rw e (all paths agent)
  where
    all : (paths : List (List Cell)) (agent : ℕ) → remove (ends paths) agent ≡ ends (others paths agent)
    all [] zero = refl
    all [] (suc agent) = refl
    all (p ∷ ps) zero = refl
    all (p ∷ ps) (suc agent) = ap (λ es. end p ∷ es) (all ps agent)

pub sound-opening : (clock : ℕ) (starts : List Cell) (slots : List ℕ) → clock ≤ 1000000000 → length starts ≤ 256 → length slots ≡ length starts →
    IsSound clock (map (λ cell. cell ∷ []) starts) starts (map (λ _. Load.None) starts) slots []
sound-opening clock starts slots fits few seats = record {
  clock_fits = fits;
  few = rw (length-map starts (λ cell. cell ∷ [])) few;
  ends_each = ends-standing starts;
  loads_each = length-map starts (λ _. Load.None) ∙ sym (length-map starts (λ cell. cell ∷ []));
  slots_each = seats ∙ sym (length-map starts (λ cell. cell ∷ []));
  tied = tied-opening starts;
  in_time = All-nil (IsInTime clock);
}

pub sound-submitted : (clock : ℕ) (paths : List (List Cell)) (cells : List Cell) (loads : List Load) (slots : List ℕ) (tasks : List Task) (client : List ℕ) (stops : List Cell) →
    IsSound clock paths cells loads slots tasks → IsSound clock paths cells loads slots (tasks ++ fresh client stops clock ∷ [])
sound-submitted clock paths cells loads slots tasks client stops is = record {
  clock_fits = is.clock_fits;
  few = is.few;
  ends_each = is.ends_each;
  loads_each = is.loads_each;
  slots_each = is.slots_each;
  tied = tied-submitted loads tasks (fresh client stops clock) refl is.tied;
  in_time = All-push (IsInTime clock) tasks (fresh client stops clock) is.in_time (in_time-fresh client stops clock);
}

pub sound-moved : (clock : ℕ) (paths : List (List Cell)) (cells : List Cell) (loads : List Load) (slots : List ℕ) (tasks : List Task) → clock < 1000000000 →
    IsSound clock paths cells loads slots tasks → IsSound (clock + 1) (map advanced paths) cells loads slots tasks
sound-moved clock paths cells loads slots tasks lt is = record {
  clock_fits = omega arith;
  few = rw (length-map paths advanced) is.few;
  ends_each = is.ends_each ∙ sym (ends-advanced paths);
  loads_each = is.loads_each ∙ sym (length-map paths advanced);
  slots_each = is.slots_each ∙ sym (length-map paths advanced);
  tied = is.tied;
  in_time = in_time-later clock tasks is.in_time;
}

pub sound-arrived : (clock : ℕ) (paths : List (List Cell)) (cells : List Cell) (loads : List Load) (slots : List ℕ) (tasks : List Task) →
    IsSound clock paths cells loads slots tasks →
    IsSound clock paths cells (map (arrived_load (arrived_tasks clock (place_of paths) tasks)) loads) slots (arrived_tasks clock (place_of paths) tasks)
sound-arrived clock paths cells loads slots tasks is = record {
  clock_fits = is.clock_fits;
  few = is.few;
  ends_each = is.ends_each;
  loads_each = length-map loads (arrived_load (arrived_tasks clock (place_of paths) tasks)) ∙ is.loads_each;
  slots_each = is.slots_each;
  tied = tied-arrived clock (place_of paths) loads tasks is.tied;
  in_time = in_time-arrived clock (place_of paths) tasks is.in_time;
}

pub sound-assigned : (clock : ℕ) (paths : List (List Cell)) (cells : List Cell) (loads : List Load) (slots : List ℕ) (tasks : List Task) (agent n : ℕ) (path : List Cell) (task : Task) →
    IsOrderly task → slice_get loads agent ≡ Some Load.None → IsTask tasks n task → IsOpen task → IsSound clock paths cells loads slots tasks →
    IsSound clock (set paths agent path) (set cells agent (end path)) (set loads agent (Load.Fetching n)) slots (set tasks n (assigned agent task))
sound-assigned clock paths cells loads slots tasks agent n path task orderly idle there is_open is = record {
  clock_fits = is.clock_fits;
  few = rw (length-set paths agent path) is.few;
  ends_each = rw is.ends_each (sym (map-set end paths agent path));
  loads_each = length-set loads agent (Load.Fetching n) ∙ is.loads_each ∙ sym (length-set paths agent path);
  slots_each = is.slots_each ∙ sym (length-set paths agent path);
  tied = tied-assigned loads tasks agent n task is.tied orderly idle there is_open;
  in_time = All-set (IsInTime clock) tasks n (assigned agent task) (kept (in_time-at tasks is.in_time there)) is.in_time;
}
  where
    kept : IsInTime clock task → IsInTime clock (assigned agent task)
    kept in_time = record { submitted = in_time.submitted; visits = in_time.visits }

    in_time-at : (tasks : List Task) → All (IsInTime clock) tasks → IsTask tasks n task → IsInTime clock task
    in_time-at tasks all there = subst (IsInTime clock) (get_or_from_slice_get tasks n task task there) (All-get_or (IsInTime clock) tasks n task (slice_get_within tasks n task there) all)

-- an agent goes another way
pub sound-adopted : (clock : ℕ) (paths : List (List Cell)) (cells : List Cell) (loads : List Load) (slots : List ℕ) (tasks : List Task) (agent : ℕ) (path : List Cell) →
    IsSound clock paths cells loads slots tasks → IsSound clock (set paths agent path) (set cells agent (end path)) loads slots tasks
sound-adopted clock paths cells loads slots tasks agent path is = record {
  clock_fits = is.clock_fits;
  few = rw (length-set paths agent path) is.few;
  ends_each = rw is.ends_each (sym (map-set end paths agent path));
  loads_each = is.loads_each ∙ sym (length-set paths agent path);
  slots_each = is.slots_each ∙ sym (length-set paths agent path);
  tied = is.tied;
  in_time = is.in_time;
}
