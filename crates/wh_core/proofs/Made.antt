-- each visit was made in a state of the run, by the task's agent, at its stop
use Rattle.std.proofs.Common.{◌≡◌, ℕ, ◌+◌, ◌-◌, ◌<◌, ◌≤◌, ◌∙◌, inl, inr, List, [], ◌∷◌, cond, ltb, Option, Some, get_or, sym, subst, refl, ap, arith}
use Prim.Native.Nat.{suc}
use Rattle.std.specs.Prelude.{slice_get}
use Rattle.std.proofs.Math.ListN.{get_or-append}
use Rattle.std.proofs.Math.Seq.{get_or-drop}
use Rattle.std.proofs.lemmas.Bool.{cases_lt}
use Rattle.std.proofs.lemmas.Option.{slice_get_within, same_Some}
use Rattle.wh_grid.specs.declared.cell.Cell.{Cell}
use Rattle.wh_path.specs.Paths.{cell_at, place_of}
use Rattle.wh_points.specs.Points.{Site}
use Rattle.wh_tasks.specs.declared.task.Task.{Task}
use Rattle.wh_tasks.specs.Tasks.{IsTask, visited, stops_left}
use Rattle.wh_tasks.specs.Arrivals.{stops_here, arrived_task, visited_at}
use Rattle.wh_tasks.proofs.Visiting.{option_cases, stops_here-at, arrived-open, arrived-by, visited-visited_at}
use Rattle.wh_tasks.proofs.Loads.{lt-ltb, ge-ltb}
use Rattle.wh_core.specs.States.{State, arrived, submitted, adopted, assigned, moved}
use Rattle.wh_core.specs.Steps.{Step, Run}
use Rattle.wh_core.specs.Laws.{WasAt, VisitsWereMade, visits_of}
use Rattle.wh_event.specs.declared.entry.Entry.{Entry}
use Rattle.wh_core.proofs.StepKinds.{Moves, stays, adds, takes, continues, parks, ticks, step-moves}
use Rattle.wh_core.proofs.Lists.{map_from}
use Rattle.wh_core.proofs.Later.{later-run}
use Rattle.wh_core.proofs.Work.{set-from, added-from}
use Rattle.wh_core.proofs.Timed.{visit-cases}

abbrev seen_at : List Task → ℕ → ℕ
seen_at tasks n = visits_of (slice_get tasks n)

seen-is : (tasks : List Task) (n : ℕ) (task : Task) → IsTask tasks n task → seen_at tasks n ≡ visited task
seen-is tasks n task is = ap visits_of is

-- the visit of this number is made now, by the task's agent at its stop
record IsMadeNow (s : State) (task : Task) (i : ℕ) : Type 0 where
  pub clock_is : get_or task.visits i 0 ≡ s.clock
  pub agent : ℕ
  pub agent_is : task.agent ≡ Some agent
  pub place_is : place_of s.paths agent ≡ cell_at task.stops i

-- visits that the arrivals add are made now
made-arrived : (s : State) (task : Task) (i : ℕ) → visited task ≤ i → i < visited (arrived_task s.clock (place_of s.paths) task) →
    IsMadeNow s (arrived_task s.clock (place_of s.paths) task) i
made-arrived s task i low high = elim (option_cases task.agent) [
  | inl e ↦ absurd (let same = ap (λ (t : Task). visited t) (arrived-open s.clock (place_of s.paths) task e) in omega arith)
  | inr e ↦
      let here = place_of s.paths e.0 in
      let by = arrived-by s.clock (place_of s.paths) task e.0 e.1 in
      let m = stops_here here (stops_left task) in
      let h : i < visited (visited_at s.clock here task) = (let same = ap (λ (t : Task). visited t) by in omega arith) in
      let count = visited-visited_at s.clock here task in
      let sum : visited task + (i - visited task) ≡ i = omega arith in
      subst (λ t. IsMadeNow s t i) (sym by) (record {
        clock_is = elim (visit-cases task.visits m s.clock i h) [ inl old ↦ absurd (let o = old.0 in omega arith) | inr new ↦ new.1 ];
        agent = e.0;
        agent_is = e.1;
        place_is =
            sym (stops_here-at here (stops_left task) (i - visited task) (omega arith))
            ∙ get_or-drop (visited task) task.stops (i - visited task) (record { x = 0; y = 0 })
            ∙ ap (λ k. cell_at task.stops k) sum;
      })
]

-- visits that a step adds are made in the state after it
abbrev MadeBy : State → State → Type 0
MadeBy old new = (n : ℕ) (task : Task) (i : ℕ) → IsTask new.tasks n task → seen_at old.tasks n ≤ i → i < visited task → IsMadeNow new task i

made-none : (old new : State) → ((n : ℕ) (task : Task) → IsTask new.tasks n task → visited task ≤ seen_at old.tasks n) → MadeBy old new
made-none old new none n task i is low high = absurd (let h = none n task is in omega arith)

-- arrivals at a state whose tasks have the visits that they had before
made-by-arrivals : (old mid : State) → ((n : ℕ) (task : Task) → IsTask mid.tasks n task → visited task ≤ seen_at old.tasks n) → MadeBy old (arrived mid)
made-by-arrivals old mid kept n task i is low high =
    let from = map_from (arrived_task mid.clock (place_of mid.paths)) mid.tasks n task is in
    let before = kept n from.0 from.1 in
    let h : i < visited (arrived_task mid.clock (place_of mid.paths) from.0) = (let same = ap (λ (t : Task). visited t) from.2 in omega arith) in
    let made = made-arrived mid from.0 i (omega arith) h in
    subst (λ t. IsMadeNow (arrived mid) t i) from.2 (record {
      clock_is = made.clock_is;
      agent = made.agent;
      agent_is = made.agent_is;
      place_is = made.place_is;
    })

seen-least : (old : List Task) (n : ℕ) (task : Task) → IsTask old n task → visited task ≤ seen_at old n
seen-least old n task is = (let e = seen-is old n task is in omega arith)

made-moves : (site : Site) (old new : State) → Moves site old new → MadeBy old new
made-moves site old new m = elim m [
  | stays c p l t z ↦ made-none old new (λ n task is. seen-least old.tasks n task (ap (λ ts. slice_get ts n) (sym t) ∙ is))
  | adds client names cells room count few stations e ↦ subst (λ s. MadeBy old s) (sym e) (made-none old (submitted client cells old) (λ n task is.
      elim (added-from old.tasks _ n task is) [
        | inl last ↦ (let none : 0 ≡ visited task = ap (λ (t : Task). visited t) last in omega arith)
        | inr there ↦ seen-least old.tasks n task there
      ]))
  | continues agent n task path due own lawful e ↦
      subst (λ s. MadeBy old s) (sym e) (made-by-arrivals old (adopted agent path old) (λ k t is. seen-least old.tasks k t is))
  | takes agent n task path due none next lawful e ↦
      let there = next.eligible.there in
      subst (λ s. MadeBy old s) (sym e) (made-by-arrivals old (adopted agent path (assigned agent n task old)) (λ k t is.
      elim (set-from old.tasks n (record task { agent = Some agent }) k t (slice_get_within old.tasks n task there) is) [
        | inl new_one ↦
            let same = ap (λ (u : Task). visited u) new_one.1 in
            let seen = seen-is old.tasks n task there in
            subst (λ j. visited t ≤ seen_at old.tasks j) (sym new_one.0) (omega arith)
        | inr before ↦ seen-least old.tasks k t before.1
      ]))
  | parks agent path due way lawful e ↦ subst (λ s. MadeBy old s) (sym e) (made-none old (adopted agent path old) (λ n task is. seen-least old.tasks n task is))
  | ticks fits e ↦ subst (λ s. MadeBy old s) (sym e) (made-by-arrivals old (moved old) (λ n task is. seen-least old.tasks n task is))
]

-- 0 below the first one
abbrev from_first : ℕ → ℕ → ℕ → ℕ
from_first first i x = cond (ltb i first) 0 x

low-first : (first i x : ℕ) → i < first → from_first first i x ≡ 0
low-first first i x h = ap (λ b. cond b 0 x) (lt-ltb i first h)

high-first : (first i x : ℕ) → first ≤ i → from_first first i x ≡ x
high-first first i x h = ap (λ b. cond b 0 x) (ge-ltb i first h)

-- the visits from the first one on were made in states of the run; of those before, nothing is said
record WereMade (site : Site) (old : State) (entries : List Entry) (new : State) (task : Task) (first : ℕ) : Type 0 where
  pub when : ℕ → ℕ
  pub zero_before : (i : ℕ) → i < first → when i ≡ 0
  pub in_order : (i j : ℕ) → i ≤ j → when i ≤ when j
  pub there : (i : ℕ) → first ≤ i → i < visited task →
      WasAt site old entries new (when i) task.agent (cell_at task.stops i) (get_or task.visits i 0)

-- one entry earlier
was_at-later : (site : Site) (old : State) (entry : Entry) (entries : List Entry) (mid new : State) (count : ℕ) (agent : Option ℕ) (cell : Cell) (clock : ℕ) →
    Step site old entry mid → WasAt site mid entries new count agent cell clock → WasAt site old (entry ∷ entries) new (suc count) agent cell clock
was_at-later site old entry entries mid new count agent cell clock step was = record {
  state = was.state;
  before = (mid, step, was.before);
  after = was.after;
  clock_is = was.clock_is;
  number = was.number;
  agent_is = was.agent_is;
  place_is = was.place_is;
}

-- a visit that the first step makes
was_at-first : (site : Site) (old : State) (entry : Entry) (entries : List Entry) (mid new : State) (n : ℕ) (task : Task) (i : ℕ) →
    Step site old entry mid → Run site mid entries new → IsTask new.tasks n task → seen_at old.tasks n ≤ i → i < seen_at mid.tasks n →
    WasAt site old (entry ∷ entries) new 1 task.agent (cell_at task.stops i) (get_or task.visits i 0)
was_at-first site old entry entries mid new n task i step run is low high = elim (option_cases (slice_get mid.tasks n)) [
  | inl none ↦ absurd (let e = ap visits_of none in omega arith)
  | inr e ↦
      let was = e.0 in
      let there : IsTask mid.tasks n was = e.1 in
      let seen = seen-is mid.tasks n was there in
      let made = made-moves site old mid (step-moves site old entry mid step) n was i there low (omega arith) in
      let later = later-run site mid entries new run n was there in
      let same : later.0 ≡ task = same_Some later.0 task (sym later.1 ∙ is) in
      let gone = later.2 in
      subst (λ (t : Task). WasAt site old (entry ∷ entries) new 1 t.agent (cell_at t.stops i) (get_or t.visits i 0)) same (record {
        state = mid;
        before = (mid, step, refl);
        after = run;
        clock_is = sym (ap (λ (v : List ℕ). get_or v i 0) gone.visits.1 ∙ get_or-append was.visits gone.visits.0 0 i (omega arith) ∙ made.clock_is);
        number = made.agent;
        agent_is = gone.agent made.agent made.agent_is;
        place_is = made.place_is ∙ ap (λ (c : List Cell). cell_at c i) (sym gone.stops);
      })
]

were_made : (site : Site) (old : State) (entries : List Entry) (new : State) (n : ℕ) (task : Task) → Run site old entries new →
    IsTask new.tasks n task → WereMade site old entries new task (seen_at old.tasks n)
were_made site old [] new n task run is = record {
  when = λ i. 0;
  zero_before = λ i h. refl;
  in_order = λ i j le. omega arith;
  there = λ i low high. absurd (let e = seen-is old.tasks n task (ap (λ s. slice_get s.tasks n) (sym run) ∙ is) in omega arith);
}
were_made site old (entry ∷ entries) new n task run is =
    let mid = run.0 in
    let first = seen_at old.tasks n in
    let rest = were_made site mid entries new n task run.2 is in
    record {
      when = λ i. from_first first i (suc (rest.when i));
      zero_before = λ i h. low-first first i (suc (rest.when i)) h;
      in_order = λ i j le. elim (cases_lt i first) [
        | inl low ↦ (let e = low-first first i (suc (rest.when i)) low in omega arith)
        | inr high ↦
            let a = high-first first i (suc (rest.when i)) high in
            let b = high-first first j (suc (rest.when j)) (omega arith) in
            let c = rest.in_order i j le in
            omega arith
      ];
      there = λ i low high.
          let W : ℕ → Type 0 = λ count. WasAt site old (entry ∷ entries) new count task.agent (cell_at task.stops i) (get_or task.visits i 0) in
          subst W (sym (high-first first i (suc (rest.when i)) low)) (elim (cases_lt i (seen_at mid.tasks n)) [
            | inl now ↦ subst W (ap suc (sym (rest.zero_before i now))) (was_at-first site old entry entries mid new n task i run.1 run.2 is low now)
            | inr later ↦ was_at-later site old entry entries mid new (rest.when i) task.agent _ _ run.1 (rest.there i later high)
          ]);
    }

pub visits_were_made : (site : Site) (old : State) (entries : List Entry) (new : State) (n : ℕ) (task : Task) → Run site old entries new →
    IsTask new.tasks n task → VisitsWereMade site old entries new task (seen_at old.tasks n)
visits_were_made site old entries new n task run is =
    let made = were_made site old entries new n task run is in
    record { when = made.when; in_order = made.in_order; there = made.there }
