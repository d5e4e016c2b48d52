-- a warehouse that was stopped may go on
use Rattle.std.proofs.Common.{◌≡◌, ◌≢◌, ℕ, ◌<◌, ◌≤◌, ◌∙◌, inl, inr, List, [], ◌∷◌, None, Some, length, get_or, take, sym, subst, refl, ap, arith}
use Prim.Native.Nat.{zero, suc}
use Rattle.std.specs.Prelude.{slice_get}
use Rattle.std.proofs.lemmas.Option.{slice_get_within, same_Some}
use Rattle.std.proofs.lemmas.List.{length-map, length-take-le, get_or-map, get_or-take}
use Rattle.wh_grid.specs.declared.cell.Cell.{Cell}
use Rattle.wh_grid.specs.Cells.{is_cell}
use Rattle.wh_grid.proofs.Cells.{is_cell-same}
use Rattle.wh_path.specs.Paths.{at, cell_at, path_of, place_of, IsWalk}
use Rattle.wh_path.proofs.AtLemmas.{at-one}
use Rattle.wh_path.proofs.Freedom.{free-resting}
use Rattle.wh_points.specs.Points.{Site}
use Rattle.wh_tasks.specs.declared.task.Task.{Task}
use Rattle.wh_tasks.specs.declared.task.Load.{Load}
use Rattle.wh_tasks.specs.Tasks.{IsTask, IsOpen, visited, stops_left}
use Rattle.wh_tasks.specs.Arrivals.{stops_here}
use Rattle.wh_tasks.proofs.Visiting.{bool_cases}
use Rattle.wh_core.specs.States.{State, load_of}
use Rattle.wh_core.specs.Laws.{IsStationCell, IsSoundTask, IsTimed, HasSeats, LoadsAgree}
use Rattle.wh_core.specs.Stopping.{agent_after, made_of, StoppedMayGoOn, LoadsAreTold}
use Rattle.wh_core.proofs.Opening.{walk-one}
use Rattle.wh_core.proofs.Motion.{IsOrderly}
use Rattle.wh_core.proofs.Work.{IsSettled}
use Rattle.wh_core.proofs.Sound.{kept-from, sound-from, load-cases}

some-at : {X : Type 0} (xs : List X) (n : ℕ) → n < length xs → (x : X) × (slice_get xs n ≡ Some x)
some-at [] n h = absurd (omega arith)
some-at (x ∷ xs) zero h = (x, refl)
some-at (x ∷ xs) (suc n) h = some-at xs n (omega arith)

-- where the next stop is elsewhere none is visited
stops_here-off : (here : Cell) (stops : List Cell) → cell_at stops 0 ≢ here → stops_here here stops ≡ 0
stops_here-off here [] off = refl
stops_here-off here (stop ∷ stops) off = elim (bool_cases (is_cell here stop)) [
  | inl e ↦ absurd (off (sym (is_cell-same here stop e)))
  | inr e ↦ rw e refl
]

-- with fewer visits a task is as it should be
fresh-made : (made : ℕ) (task : Task) → made ≤ visited task → (IsOpen task → visited task ≡ 0) → agent_after made task.agent ≡ None → length (take made task.visits) ≡ 0
fresh-made zero task few fresh none = refl
fresh-made (suc made) task few fresh none = absurd (let e = fresh none in omega arith)

known-made : (made count : ℕ) (task : Task) → ((a : ℕ) → task.agent ≡ Some a → a < count) → (a : ℕ) → agent_after made task.agent ≡ Some a → a < count
known-made zero count task known a has = absurd (let e : None ≡ Some a = has in cc)
known-made (suc made) count task known a has = known a has

timed-made : (clock made : ℕ) (task : Task) → made ≤ visited task → IsTimed clock task → IsTimed clock (made_of made task)
timed-made clock made task few t =
    let size : length (take made task.visits) ≡ made = length-take-le made task.visits few in
    let same : (i : ℕ) → i < made → get_or (take made task.visits) i 0 ≡ get_or task.visits i 0 = λ i h. get_or-take made task.visits i 0 h in
    record {
      submitted = t.submitted;
      first = λ i h. (let l : i < made = omega arith in let e = same i l in let f = t.first i (omega arith) in omega arith);
      in_order = λ i j le h.
          let l : j < made = omega arith in
          let k : i < made = omega arith in
          let e = same j l in
          let f = same i k in
          let o = t.in_order i j le (omega arith) in
          omega arith;
      last = λ i h. (let l : i < made = omega arith in let e = same i l in let f = t.last i (omega arith) in omega arith);
    }

sound-made : (site : Site) (old new : State) (made : ℕ) (task : Task) → new.clock ≡ old.clock → length new.paths ≡ length old.paths → made ≤ visited task →
    (made < length task.stops → (i : ℕ) → i < length task.stops → IsStationCell site.layout (cell_at task.stops i)) → IsSoundTask site old task → IsSoundTask site new (made_of made task)
sound-made site old new made task clock size few stations t = record {
  stops = record { count = t.stops.count; few = t.stops.few; stations = λ more i h. stations (let e = length-take-le made task.visits few in omega arith) i h };
  few = (let e = length-take-le made task.visits few in let f = t.few in omega arith);
  fresh = λ none. fresh-made made task few t.fresh none;
  known = λ a has. (let h = known-made made (length old.paths) task t.known a has in omega arith);
  timed = subst (λ k. IsTimed k (made_of made task)) (sym clock) (timed-made old.clock made task few t.timed);
}

pub stopped_may_go_on : StoppedMayGoOn
stopped_may_go_on site old new places made beginning stand stopped =
    let sound = beginning.sound in
    let one : Cell → List Cell = λ cell. cell ∷ [] in
    let size : length new.paths ≡ length places = ap (λ ps. length ps) stopped.paths ∙ length-map places one in
    let path : (i : ℕ) → i < length places → path_of new.paths i ≡ cell_at places i ∷ [] = λ i h.
    ap (λ ps. path_of ps i) stopped.paths ∙ get_or-map one places i (record { x = 0; y = 0 }) [] h in
    let seats : HasSeats site new = record {
      paths = size ∙ stand.all;
      loads = stopped.seats ∙ stand.all;
      slots = stopped.slots ∙ sound.seats.slots;
    } in
    let tasks : (n : ℕ) (task : Task) → IsTask new.tasks n task → IsSoundTask site new task = λ n task is.
    let within : n < length old.tasks = (let h = slice_get_within new.tasks n task is in let e = stopped.count in omega arith) in
    let was = some-at old.tasks n within in
    let is_made = stopped.tasks n was.0 was.1 in
    let same : made_of (made n) was.0 ≡ task = same_Some _ task (sym is_made.1 ∙ is) in
    let both : length new.paths ≡ length old.paths = seats.paths ∙ sym sound.seats.paths in
    subst (λ t. IsSoundTask site new t) same (sound-made site old new (made n) was.0 stopped.clock both is_made.0 (stopped.stations n was.0 was.1) (sound.tasks n was.0 was.1)) in
    let orderly : IsOrderly site new = record {
      free = record {
        pair = λ i j hi hj ne.
            let i_in : i < length places = omega arith in
            let j_in : j < length places = omega arith in
            rw (path i i_in, path j j_in) (free-resting site.layout.nofollow _ _ (stand.apart i j i_in j_in ne));
      };
      walks = λ i h.
          let i_in : i < length places = omega arith in
          subst (λ p. IsWalk site.grid p) (sym (path i i_in)) (walk-one site.grid (cell_at places i) (stand.passable i i_in));
      stops = λ n task is. (tasks n task is).stops;
    } in
    let loads : (agent : ℕ) → agent < length new.paths → LoadsAgree new agent = λ agent h. stopped.loads agent (omega arith) in
    let settled : IsSettled new = record {
      stuck = λ n task agent is way.
          let h : agent < length places = (let k = (tasks n task is).known agent way.agent_is in omega arith) in
          let off = stopped.away agent n task (record { there = is; agent_is = way.agent_is; left = way.more }) in
          let here : place_of new.paths agent ≡ cell_at places agent = ap (λ p. at p 0) (path agent h) ∙ at-one (cell_at places agent) 0 in
          stops_here-off (place_of new.paths agent) (stops_left task) (λ e. off (e ∙ here));
    } in
    let within : (length new.tasks ≤ _) × (new.clock ≤ _) = (let e = stopped.count in let f = sound.few in omega arith, let e = stopped.clock in let f = sound.clock_fits in omega arith) in
    record {
      layout = beginning.layout;
      sound = sound-from site new seats within (λ n task is. (tasks n task is).timed) (kept-from site new seats orderly tasks loads settled);
    }

-- lists of one length that agree at each place are one
pointwise : {X : Type 0} (d : X) (xs ys : List X) → length xs ≡ length ys → ((i : ℕ) → i < length xs → get_or xs i d ≡ get_or ys i d) → xs ≡ ys
pointwise d [] [] e each = refl
pointwise d [] (y ∷ ys) e each = absurd (omega arith)
pointwise d (x ∷ xs) [] e each = absurd (omega arith)
pointwise d (x ∷ xs) (y ∷ ys) e each =
    ap (λ z. z ∷ xs) (each 0 (omega arith)) ∙ ap (λ zs. y ∷ zs) (pointwise d xs ys (omega arith) (λ i h. each (suc i) (omega arith)))

-- the tasks tell a load
load-told : (one other : State) (agent : ℕ) → one.tasks ≡ other.tasks → LoadsAgree one agent → LoadsAgree other agent → load_of one agent ≡ load_of other agent
load-told one other agent tasks a b = elim (load-cases (load_of one agent)) [
  | inl none ↦ elim (load-cases (load_of other agent)) [
    | inl nothing ↦ none ∙ sym nothing
    | inr some ↦ elim some [
      | inl f ↦
          let t = (b.fetching f.0).0 f.1 in
          let has = (a.fetching f.0).1 (t.0, ap (λ ts. slice_get ts f.0) tasks ∙ t.1, t.2, t.3) in
          has ∙ sym f.1
      | inr c ↦
          let t = (b.carrying c.0 c.1).0 c.2 in
          let has = (a.carrying c.0 c.1).1 (t.0, ap (λ ts. slice_get ts c.0) tasks ∙ t.1, t.2, t.3, t.4) in
          has ∙ sym c.2
    ]
  ]
  | inr some ↦ elim some [
    | inl f ↦
        let t = (a.fetching f.0).0 f.1 in
        f.1 ∙ sym ((b.fetching f.0).1 (t.0, ap (λ ts. slice_get ts f.0) (sym tasks) ∙ t.1, t.2, t.3))
    | inr c ↦
        let t = (a.carrying c.0 c.1).0 c.2 in
        c.2 ∙ sym ((b.carrying c.0 c.1).1 (t.0, ap (λ ts. slice_get ts c.0) (sym tasks) ∙ t.1, t.2, t.3, t.4))
  ]
]

pub loads_are_told : LoadsAreTold
loads_are_told site one other a b same =
    let loads : one.loads ≡ other.loads = pointwise Load.None one.loads other.loads (a.sound.seats.loads ∙ sym b.sound.seats.loads) (λ i h.
    let first : i < length one.paths = (let e = a.sound.seats.loads in let f = a.sound.seats.paths in omega arith) in
    let second : i < length other.paths = (let e = a.sound.seats.loads in let f = b.sound.seats.paths in omega arith) in
    load-told one other i same.tasks (a.sound.loads i first) (b.sound.loads i second)) in
    λ i. record one { clock = same.clock i; closed = same.closed i; paths = same.paths i; loads = loads i; slots = same.slots i; tasks = same.tasks i }
