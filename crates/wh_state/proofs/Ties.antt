-- how loads and tasks agree, after each change
use Rattle.std.proofs.Common.{◌≡◌, ◌≢◌, ℕ, ◌+◌, ◌<◌, ◌≤◌, ◌⊎◌, inl, inr, List, [], ◌∷◌, ◌++◌, length, map, ap, sym, ◌∙◌, arith, refl, subst, suc, zero}
use Rattle.std.specs.Prelude.{Option, Some, None, All, slice_get, replicate}
use Rattle.std.specs.Option.{option_map}
use Rattle.std.proofs.Math.ListN.{set}
use Rattle.std.proofs.lemmas.Option.{slice_get_within, slice_get-map, same_Some}
use Rattle.std.proofs.lemmas.List.{length-append}
use Rattle.std.proofs.lemmas.List.Elements.{All-map, All-weaker, All-nil}
use Rattle.std.proofs.lemmas.Bool.{cases_eq}
use Rattle.wh_grid.specs.declared.cell.Cell.{Cell}
use Rattle.wh_tasks.specs.declared.task.Task.{Task}
use Rattle.wh_tasks.specs.declared.task.Load.{Load}
use Rattle.wh_tasks.specs.Tasks.{IsTask, IsOpen, visited, stops_left, load_for, load_in, phase_of}
use Rattle.wh_tasks.specs.Arrivals.{arrived_by, arrived_task, arrived_tasks, arrived_load, load_of_task, stops_here}
use Rattle.wh_tasks.specs.Changes.{fresh, assigned, IsInTime, IsOrderly}
use Rattle.wh_tasks.specs.Loads.{task_of, Holds}
use Rattle.wh_state.specs.Standings.{AreTied}
use Rattle.wh_state.proofs.Below.{in_time-visited_at, task_of-load_for, load-left}

-- a list with one element more
pub slice_get-push : {X : Type 0} (xs : List X) (x y : X) (n : ℕ) → slice_get (xs ++ x ∷ []) n ≡ Some y → (slice_get xs n ≡ Some y) ⊎ (y ≡ x)
slice_get-push [] x y zero is = inr (let e : x ≡ y = cc in sym e)
slice_get-push [] x y (suc n) is = cc
slice_get-push (z ∷ xs) x y zero is = inl is
slice_get-push (z ∷ xs) x y (suc n) is = slice_get-push xs x y n is

pub slice_get-more : {X : Type 0} (xs ys : List X) (y : X) (n : ℕ) → slice_get xs n ≡ Some y → slice_get (xs ++ ys) n ≡ Some y
slice_get-more [] ys y n is = cc
slice_get-more (z ∷ xs) ys y zero is = is
slice_get-more (z ∷ xs) ys y (suc n) is = slice_get-more xs ys y n is

pub slice_get-set_same : {X : Type 0} (xs : List X) (i : ℕ) (y : X) → i < length xs → slice_get (set xs i y) i ≡ Some y
slice_get-set_same [] i y h = absurd (omega arith)
slice_get-set_same (x ∷ xs) zero y h = refl
slice_get-set_same (x ∷ xs) (suc i) y h = let h' : i < length xs = omega arith in slice_get-set_same xs i y h'

pub slice_get-set_other : {X : Type 0} (xs : List X) (i j : ℕ) (y : X) → j ≢ i → slice_get (set xs i y) j ≡ slice_get xs j
slice_get-set_other [] i j y ne = refl
slice_get-set_other (x ∷ xs) zero zero y ne = absurd (ne refl)
slice_get-set_other (x ∷ xs) zero (suc j) y ne = refl
slice_get-set_other (x ∷ xs) (suc i) zero y ne = refl
slice_get-set_other (x ∷ xs) (suc i) (suc j) y ne = slice_get-set_other xs i j y (λ e. ne (ap (λ n. suc n) e))

-- with no task and no load
pub tied-opening : (starts : List Cell) → AreTied (map (λ _. Load.None) starts) []
tied-opening starts = record {
  holds = λ agent n load has names.
      let none : load ≡ Load.None = idle starts agent load has in
      let e : None ≡ Some n = sym (ap task_of none) ∙ names in
      cc;
  known = λ agent n task there is left. cc;
}
  where
    idle : (starts : List Cell) (agent : ℕ) (load : Load) → slice_get (map (λ _. Load.None) starts) agent ≡ Some load → load ≡ Load.None
    idle [] agent load has = cc
    idle (c ∷ cs) zero load has = let e : Load.None ≡ load = cc in sym e
    idle (c ∷ cs) (suc agent) load has = idle cs agent load has

-- a task more, which is open
pub tied-submitted : (loads : List Load) (tasks : List Task) (task : Task) → IsOpen task → AreTied loads tasks → AreTied loads (tasks ++ task ∷ [])
tied-submitted loads tasks task is_open tied = record {
  holds = λ agent n load has names.
      let holds = tied.holds agent n load has names in
      record {
        task = holds.task;
        there = slice_get-more tasks (task ∷ []) holds.task n holds.there;
        agent_is = holds.agent_is;
        left = holds.left;
        load_is = holds.load_is;
      };
  known = λ agent n other there is left.
      elim (slice_get-push tasks task other n there) [
        | inl before ↦ tied.known agent n other before is left
        | inr new ↦ let e : None ≡ Some agent = sym is_open ∙ ap (λ (t : Task). t.agent) (sym new) ∙ is in cc
      ];
}

pub in_time-fresh : (client : List ℕ) (stops : List Cell) (clock : ℕ) → IsInTime clock (fresh client stops clock)
in_time-fresh client stops clock = record { submitted = omega arith; visits = All-nil (λ earlier. earlier ≤ clock) }

-- the clock grows
pub in_time-later : (clock : ℕ) (tasks : List Task) → All (IsInTime clock) tasks → All (IsInTime (clock + 1)) tasks
in_time-later clock tasks all =
    All-weaker (IsInTime clock) (IsInTime (clock + 1))
    (λ task is. record {
      submitted = let h = is.submitted in omega arith;
      visits = All-weaker (λ earlier. earlier ≤ clock) (λ earlier. earlier ≤ clock + 1) (λ v le. (let le' : v ≤ clock + 1 = omega arith in le')) task.visits is.visits;
    })
    tasks all

-- an arrival keeps the agent and the stops, and no visit is lost
pub record Keeps (old new : Task) : Type 0 where
  pub agent : new.agent ≡ old.agent
  pub stops : new.stops ≡ old.stops
  pub visits : visited old ≤ visited new

pub keeps-arrived : (clock : ℕ) (place : ℕ → Cell) (task : Task) (agent : Option ℕ) → Keeps task (arrived_by clock place agent task)
keeps-arrived clock place task None = record { agent = refl; stops = refl; visits = omega arith }
keeps-arrived clock place task (Some a) = record { agent = refl; stops = refl; visits = rw (length-append task.visits (replicate (stops_here (place a) (stops_left task)) clock)) (omega arith) }

pub in_time-arrived : (clock : ℕ) (place : ℕ → Cell) (tasks : List Task) → All (IsInTime clock) tasks → All (IsInTime clock) (arrived_tasks clock place tasks)
in_time-arrived clock place tasks all =
    All-map (IsInTime clock) (arrived_task clock place) tasks
    (All-weaker (IsInTime clock) (λ task. IsInTime clock (arrived_task clock place task)) (λ task is. each task task.agent is) tasks all)
  where
    each : (task : Task) (agent : Option ℕ) → IsInTime clock task → IsInTime clock (arrived_by clock place agent task)
    each task None is = is
    each task (Some a) is = in_time-visited_at clock (place a) task is

-- an element of a mapped list is that of an element
pub record IsMapped {X Y : Type 0} (f : X → Y) (xs : List X) (n : ℕ) (y : Y) : Type 0 where
  pub from : X
  pub there : slice_get xs n ≡ Some from
  pub is : y ≡ f from

pub mapped-from : {X Y : Type 0} (f : X → Y) (xs : List X) (n : ℕ) (y : Y) → slice_get (map f xs) n ≡ Some y → IsMapped f xs n y
mapped-from f [] n y is = cc
mapped-from f (x ∷ xs) zero y is = record { from = x; there = refl; is = (let e : f x ≡ y = cc in sym e) }
mapped-from f (x ∷ xs) (suc n) y is = let rest = mapped-from f xs n y is in record { from = rest.from; there = rest.there; is = rest.is }

-- the load after arrivals, by the task that it names
pub arrived-named : (final : List Task) (load : Load) (n : ℕ) → task_of load ≡ Some n → arrived_load final load ≡ load_of_task n (slice_get final n)
arrived-named final Load.None n e = cc
arrived-named final (Load.Fetching m) n e = let same : m ≡ n = cc in ap (λ k. load_of_task k (slice_get final k)) same
arrived-named final (Load.Carrying m seen) n e = let same : m ≡ n = cc in ap (λ k. load_of_task k (slice_get final k)) same

-- the task that an arrived load names was named by the load before
named-before : (final : List Task) (load : Load) (m : ℕ) → task_of (arrived_load final load) ≡ Some m → (n : ℕ) × (task_of load ≡ Some n)
named-before final Load.None m e = cc
named-before final (Load.Fetching n) m e = (n, refl)
named-before final (Load.Carrying n seen) m e = (n, refl)

pub tied-arrived : (clock : ℕ) (place : ℕ → Cell) (loads : List Load) (tasks : List Task) → AreTied loads tasks →
    AreTied (map (arrived_load (arrived_tasks clock place tasks)) loads) (arrived_tasks clock place tasks)
tied-arrived clock place loads tasks tied = record {
  holds = λ agent m new has names.
      let final = arrived_tasks clock place tasks in
      let from = mapped-from (arrived_load final) loads agent new has in
      let old = from.from in
      let before = named-before final old m (sym (ap task_of from.is) ∙ names) in
      let n = before.0 in
      let holds = tied.holds agent n old from.there before.1 in
      let task = holds.task in
      let later = arrived_task clock place task in
      let keeps = keeps-arrived clock place task task.agent in
      let there : IsTask final n later = slice_get-map (arrived_task clock place) tasks n ∙ ap (option_map (arrived_task clock place)) holds.there in
      let load_is : new ≡ load_for n later = from.is ∙ arrived-named final old n before.1 ∙ ap (load_of_task n) there in
      let some : 0 < length later.stops = rw keeps.stops (let h = holds.left in omega arith) in
      let left = load-left n m later.agent (visited later) (length later.stops) some (sym (ap task_of load_is) ∙ names) in
      subst (λ k. Holds final agent k new) left.0 (record {
        task = later;
        there = there;
        agent_is = keeps.agent ∙ holds.agent_is;
        left = left.1;
        load_is = load_is;
      });
  known = λ agent n new there is left.
      let final = arrived_tasks clock place tasks in
      let from = mapped-from (arrived_task clock place) tasks n new there in
      let task = from.from in
      let keeps = keeps-arrived clock place task task.agent in
      let was : task.agent ≡ Some agent = sym keeps.agent ∙ ap (λ (t : Task). t.agent) (sym from.is) ∙ is in
      let left' = rw from.is at left in
      let left'' : visited task < length task.stops = (let a = keeps.visits in let b = ap length keeps.stops in omega arith) in
      let before = tied.known agent n task from.there was left'' in
      let named = task_of-load_for n agent task was left'' in
      slice_get-map (arrived_load final) loads agent ∙ ap (option_map (arrived_load final)) before
      ∙ ap (λ l. Some l) (arrived-named final (load_for n task) n named ∙ ap (load_of_task n) there);
}

-- an agent without a load gets an open task
pub tied-assigned : (loads : List Load) (tasks : List Task) (agent n : ℕ) (task : Task) → AreTied loads tasks → IsOrderly task → slice_get loads agent ≡ Some Load.None →
    IsTask tasks n task → IsOpen task → AreTied (set loads agent (Load.Fetching n)) (set tasks n (assigned agent task))
tied-assigned loads tasks agent n task tied orderly idle there is_open = record {
  holds = λ a m load has names.
      elim (cases_eq a agent) [
        | inl same ↦
            let load_is : load ≡ Load.Fetching n =
            same_Some load (Load.Fetching n) (sym has ∙ ap (slice_get (set loads agent (Load.Fetching n))) same ∙ slice_get-set_same loads agent (Load.Fetching n) in_loads) in
            let m_is : n ≡ m = same_Some n m (ap task_of (sym load_is) ∙ names) in
            subst (λ k. Holds (set tasks n (assigned agent task)) a k load) m_is (record {
              task = assigned agent task;
              there = slice_get-set_same tasks n (assigned agent task) in_tasks;
              agent_is = ap (λ x. Some x) (sym same);
              left = left;
              load_is = load_is ∙ sym fetching;
            })
        | inr apart ↦
            let has' : slice_get loads a ≡ Some load = sym (slice_get-set_other loads agent a (Load.Fetching n) apart) ∙ has in
            let holds = tied.holds a m load has' names in
            let other : m ≢ n = λ e. taken a m holds.task holds.there holds.agent_is e in
            record {
              task = holds.task;
              there = slice_get-set_other tasks n m (assigned agent task) other ∙ holds.there;
              agent_is = holds.agent_is;
              left = holds.left;
              load_is = holds.load_is;
            }
      ];
  known = λ a m other at is still.
      elim (cases_eq m n) [
        | inl same ↦
            let one : other ≡ assigned agent task =
            same_Some other (assigned agent task) (sym at ∙ ap (slice_get (set tasks n (assigned agent task))) same ∙ slice_get-set_same tasks n (assigned agent task) in_tasks) in
            let agent_is : a ≡ agent = same_Some a agent (sym is ∙ ap (λ (t : Task). t.agent) one) in
            ap (slice_get (set loads agent (Load.Fetching n))) agent_is ∙ slice_get-set_same loads agent (Load.Fetching n) in_loads
            ∙ ap (λ l. Some l) (sym (ap (load_for m) one ∙ ap (λ k. load_for k (assigned agent task)) same ∙ fetching))
        | inr apart ↦
            let at' : IsTask tasks m other = sym (slice_get-set_other tasks n m (assigned agent task) apart) ∙ at in
            let before = tied.known a m other at' is still in
            let differ : a ≢ agent = λ e.
            (let none : Load.None ≡ load_for m other = same_Some Load.None (load_for m other) (sym idle ∙ ap (slice_get loads) (sym e) ∙ before) in
            let no : None ≡ Some m = ap task_of none ∙ task_of-load_for m a other is still in
            cc) in
            slice_get-set_other loads agent a (Load.Fetching n) differ ∙ before
      ];
}
  where
    in_loads : agent < length loads
    in_loads = slice_get_within loads agent Load.None idle

    in_tasks : n < length tasks
    in_tasks = slice_get_within tasks n task there

    left : visited (assigned agent task) < length (assigned agent task).stops
    left = let a = orderly.unvisited is_open in let b = orderly.two in omega arith

    fetching : load_for n (assigned agent task) ≡ Load.Fetching n
    fetching = ap (λ seen. load_in (phase_of (Some agent) seen (length task.stops)) n seen) (orderly.unvisited is_open)

    taken : (a m : ℕ) (other : Task) → IsTask tasks m other → other.agent ≡ Some a → m ≡ n → ⊥
    taken a m other at is e =
        let one : other ≡ task = same_Some other task (sym at ∙ ap (slice_get tasks) e ∙ there) in
        let no : None ≡ Some a = sym is_open ∙ ap (λ (t : Task). t.agent) (sym one) ∙ is in
        cc
