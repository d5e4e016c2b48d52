-- parts without a flaw make a sound state, and the parts of a sound state have none
use Rattle.std.proofs.Common.{◌≡◌, ◌≢◌, ℕ, ◌+◌, ◌<◌, ◌∙◌, inl, inr, List, [], ◌∷◌, length, sym, subst, refl, ap, arith}
use Rattle.std.specs.Prelude.{slice_get}
use Rattle.std.proofs.lemmas.List.{length-drop}
use Rattle.std.proofs.lemmas.List.FromFn.{length-map-range_with_len, get_or-map-range_with_len}
use Rattle.std.proofs.lemmas.Option.{same_Some}
use Rattle.wh_grid.specs.declared.cell.Cell.{Cell}
use Rattle.wh_grid.specs.Cells.{is_cell}
use Rattle.wh_grid.proofs.Cells.{is_cell-same}
use Rattle.wh_path.specs.Paths.{cell_at, place_of}
use Rattle.wh_points.specs.Points.{Site}
use Rattle.wh_tasks.specs.declared.task.Task.{Task}
use Rattle.wh_tasks.specs.declared.task.Load.{Load}
use Rattle.wh_tasks.specs.Tasks.{IsTask, visited, stops_left, load_for}
use Rattle.wh_tasks.specs.Arrivals.{stops_here}
use Rattle.wh_tasks.proofs.Visiting.{bool_cases, stops_here-next}
use Rattle.wh_tasks.proofs.Loads.{IsUnderway}
use Rattle.wh_core.specs.States.{State, load_of}
use Rattle.wh_core.specs.Steps.{IsOwn}
use Rattle.wh_core.specs.Laws.{HasSeats, IsSound, IsSoundTask, IsTimed, IsBeginning}
use Rattle.wh_core.proofs.Motion.{IsOrderly}
use Rattle.wh_core.proofs.Work.{IsBusy, IsKept, IsWorking, IsSettled}
use Rattle.wh_core.proofs.Sound.{kept-of, sound-from}
use Rattle.wh_core.proofs.Stopped.{loads_are_told}
use Rattle.wh_stand.specs.Parts.{Parts, state_of, parts_of, told_load}
use Rattle.wh_stand.specs.TaskFlaws.{IsHeld}
use Rattle.wh_stand.specs.Flawless.{AreFlawless, PartsTellTheState}
use Rattle.wh_stand.proofs.Holding.{told-cases, held-underway, underway-held, held-number}

-- where the next stop is elsewhere none is visited, and the other way round
pub stops_here-off : (here : Cell) (stops : List Cell) → cell_at stops 0 ≢ here → stops_here here stops ≡ 0
stops_here-off here [] off = refl
stops_here-off here (stop ∷ stops) off = elim (bool_cases (is_cell here stop)) [
  | inl e ↦ absurd (off (sym (is_cell-same here stop e)))
  | inr e ↦ rw e refl
]

pub left-off : (here : Cell) (task : Task) → visited task < length task.stops → stops_here here (stops_left task) ≡ 0 → cell_at (stops_left task) 0 ≢ here
left-off here task left none =
    let size = length-drop (visited task) task.stops in
    stops_here-next here (stops_left task) none (omega arith)

pub own-held : (s : State) (agent n : ℕ) (task : Task) → IsOwn s agent n task → IsHeld agent task
own-held s agent n task own = record { agent_is = own.agent_is; left = own.left }

pub own-underway : (s : State) (agent n : ℕ) (task : Task) → IsOwn s agent n task → IsUnderway agent task
own-underway s agent n task own = record { agent_is = own.agent_is; more = own.left }

pub held-own : (s : State) (agent n : ℕ) (task : Task) → IsTask s.tasks n task → IsHeld agent task → IsOwn s agent n task
held-own s agent n task is held = record { there = is; agent_is = held.agent_is; left = held.left }

-- the load in the state that parts make
pub load-at : (parts : Parts) (agent : ℕ) → agent < length parts.paths → load_of (state_of parts) agent ≡ told_load parts.tasks agent
load-at parts agent h =
    get_or-map-range_with_len (told_load parts.tasks) 0 (length parts.paths) agent agent Load.None h (let z : 0 + agent ≡ agent = omega arith in z)

flawless-busy : (site : Site) (parts : Parts) (n : ℕ) (task : Task) (agent : ℕ) → AreFlawless site parts → IsTask parts.tasks n task → IsHeld agent task →
    IsBusy (state_of parts) agent n task
flawless-busy site parts n task agent f is held =
    let known = (f.tasks n task is).known agent held.agent_is in
    record {
      known = known;
      load = load-at parts agent known ∙ elim (told-cases parts.tasks agent 0) [
        | inl none ↦ absurd (none.0 n task is held)
        | inr has ↦
            let same : has.number ≡ n = f.one agent has.number n has.task task (held-own (state_of parts) agent has.number has.task has.there has.held) (held-own (state_of parts) agent n task is held) in
            let number : 0 + has.number ≡ n = omega arith in
            let one : has.task ≡ task = same_Some has.task task (sym has.there ∙ ap (λ k. slice_get parts.tasks k) same ∙ is) in
            has.load_is ∙ ap (λ k. load_for k has.task) number ∙ ap (λ t. load_for n t) one
      ];
    }

flawless-working : (site : Site) (parts : Parts) → AreFlawless site parts → IsWorking (state_of parts)
flawless-working site parts f = record {
  seats = length-map-range_with_len (told_load parts.tasks) 0 (length parts.paths);
  few = λ n task is. (f.tasks n task is).few;
  fresh = λ n task is. (f.tasks n task is).fresh;
  known = λ n task agent is. (f.tasks n task is).known agent;
  busy = λ n task agent is way. flawless-busy site parts n task agent f is (underway-held agent task way);
  loads = λ agent known. elim (told-cases parts.tasks agent 0) [
    | inl none ↦ inl (load-at parts agent known ∙ none.1)
    | inr has ↦ inr (record {
      number = has.number;
      task = has.task;
      there = has.there;
      underway = held-underway agent has.task has.held;
      load = load-at parts agent known ∙ has.load_is ∙ ap (λ k. load_for k has.task) (let z : 0 + has.number ≡ has.number = omega arith in z);
    })
  ];
}

pub flawless-sound : (site : Site) (parts : Parts) → length parts.paths ≡ length site.layout.agents → AreFlawless site parts → IsSound site (state_of parts)
flawless-sound site parts size f =
    let s = state_of parts in
    let seats : HasSeats site s = record {
      paths = size;
      loads = length-map-range_with_len (told_load parts.tasks) 0 (length parts.paths) ∙ size;
      slots = f.slots ∙ size;
    } in
    let orderly : IsOrderly site s = record { free = f.free; walks = f.walks; stops = λ n task is. (f.tasks n task is).stops } in
    let settled : IsSettled s = record {
      stuck = λ n task agent is way.
          stops_here-off (place_of parts.paths agent) (stops_left task) (f.away agent n task (record { there = is; agent_is = way.agent_is; left = way.more }));
    } in
    let kept : IsKept site s = record { orderly = orderly; working = flawless-working site parts f; settled = settled } in
    sound-from site s seats (f.few, f.clock_fits) (λ n task is. (f.tasks n task is).timed) kept

-- in a sound state an agent has one task of which stops are left, and stands at none of them that comes next
pub sound-one : (site : Site) (s : State) → IsSound site s → (agent m n : ℕ) (task other : Task) → IsOwn s agent m task → IsOwn s agent n other → m ≡ n
sound-one site s sound agent m n task other a b =
    let w = (kept-of site s sound).working in
    let one = (w.busy m task agent a.there (own-underway s agent m task a)).load in
    let two = (w.busy n other agent b.there (own-underway s agent n other b)).load in
    held-number m n agent task other (own-held s agent m task a) (own-held s agent n other b) (sym one ∙ two)

pub sound-away : (site : Site) (s : State) → IsSound site s → (agent n : ℕ) (task : Task) → IsOwn s agent n task → cell_at (stops_left task) 0 ≢ place_of s.paths agent
sound-away site s sound agent n task own =
    let settled = (kept-of site s sound).settled in
    left-off (place_of s.paths agent) task own.left (settled.stuck n task agent own.there (own-underway s agent n task own))

pub task-as : (site : Site) (a b : State) (task : Task) → length b.paths ≡ length a.paths → b.clock ≡ a.clock → IsSoundTask site a task → IsSoundTask site b task
task-as site a b task size clock t = record {
  stops = t.stops;
  few = t.few;
  fresh = t.fresh;
  known = λ agent has. (let h = t.known agent has in omega arith);
  timed = subst (λ k. IsTimed k task) (sym clock) t.timed;
}

pub own-as : (a b : State) (agent n : ℕ) (task : Task) → a.tasks ≡ b.tasks → IsOwn a agent n task → IsOwn b agent n task
own-as a b agent n task e own = record { there = ap (λ ts. slice_get ts n) (sym e) ∙ own.there; agent_is = own.agent_is; left = own.left }

pub sound-flawless : (site : Site) (s : State) → IsSound site s → AreFlawless site (parts_of s)
sound-flawless site s sound =
    let told = state_of (parts_of s) in
    record {
      slots = sound.seats.slots ∙ sym sound.seats.paths;
      few = sound.few;
      clock_fits = sound.clock_fits;
      walks = sound.walks;
      free = sound.free;
      tasks = λ n task is. task-as site s told task refl refl (sound.tasks n task is);
      one = λ agent m n task other a b. sound-one site s sound agent m n task other (own-as told s agent m task refl a) (own-as told s agent n other refl b);
      away = λ agent n task own. sound-away site s sound agent n task (own-as told s agent n task refl own);
    }

pub parts_tell_the_state : PartsTellTheState
parts_tell_the_state site s b =
    let parts = parts_of s in
    let told : IsBeginning site (state_of parts) = record { layout = b.layout; sound = flawless-sound site parts b.sound.seats.paths (sound-flawless site s b.sound) } in
    loads_are_told site s (state_of parts) b told (record { clock = refl; closed = refl; paths = refl; slots = refl; tasks = refl })
