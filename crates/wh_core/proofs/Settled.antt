-- loads and tasks agree, and arrivals have been made
use Rattle.std.proofs.Common.{◌≡◌, ℕ, ◌<◌, ◌≤◌, ◌∙◌, inl, inr, List, [], ◌∷◌, Some, length, map, sym, subst, refl, ap, arith}
use Prim.Native.Nat.{suc}
use Rattle.std.specs.Prelude.{slice_get}
use Rattle.std.proofs.lemmas.Bool.{cases_lt}
use Rattle.std.proofs.lemmas.Option.{slice_get_within, get_or_from_slice_get}
use Rattle.wh_path.specs.Paths.{place_of}
use Rattle.wh_points.specs.Points.{Site}
use Rattle.wh_tasks.specs.declared.task.Task.{Task}
use Rattle.wh_tasks.specs.declared.task.Load.{Load}
use Rattle.wh_tasks.specs.declared.task.Phase.{Phase}
use Rattle.wh_tasks.specs.Tasks.{IsTask, visited, phase, load_for}
use Rattle.wh_tasks.specs.Arrivals.{arrived_task, arrived_tasks, arrived_load}
use Rattle.wh_tasks.proofs.Visiting.{arrived-twice, arrived-none, stops_left-over}
use Rattle.wh_tasks.proofs.Loads.{is_open, is_assigned, is_carried, is_done, comes_to, IsUnderway, load_for-arrived, load-twice}
use Rattle.wh_core.specs.States.{State, load_of, arrived}
use Rattle.wh_core.specs.Laws.{LoadsAgree}
use Rattle.wh_core.proofs.Work.{IsKept}

-- a map that changes no element changes nothing
map-same : {X : Type 0} (f : X → X) (xs : List X) → ((n : ℕ) (x : X) → slice_get xs n ≡ Some x → f x ≡ x) → map f xs ≡ xs
map-same f [] each = refl
map-same f (x ∷ xs) each = ap (λ y. y ∷ map f xs) (each 0 x refl) ∙ ap (λ ys. x ∷ ys) (map-same f xs (λ n y is. each (suc n) y is))

map-twice : {X : Type 0} (f : X → X) (xs : List X) → ((x : X) → f (f x) ≡ f x) → map f (map f xs) ≡ map f xs
map-twice f [] each = refl
map-twice f (x ∷ xs) each = ap (λ y. y ∷ map f (map f xs)) (each x) ∙ ap (λ ys. f x ∷ ys) (map-twice f xs each)

-- arrivals that leave the tasks leave the loads, where these are settled
arrived-parts : (s : State) → arrived_tasks s.clock (place_of s.paths) s.tasks ≡ s.tasks → map (arrived_load s.tasks) s.loads ≡ s.loads → arrived s ≡ s
arrived-parts s tasks loads =
    ap (λ ts. record s { tasks = ts; loads = map (arrived_load ts) s.loads }) tasks ∙ ap (λ ls. record s { loads = ls }) loads

pub arrived-again : (s : State) → arrived (arrived s) ≡ arrived s
arrived-again s =
    let tasks = arrived_tasks s.clock (place_of s.paths) s.tasks in
    arrived-parts (arrived s)
    (map-twice (arrived_task s.clock (place_of s.paths)) s.tasks (arrived-twice s.clock (place_of s.paths)))
    (map-twice (arrived_load tasks) s.loads (load-twice tasks))

pub arrived-kept : (site : Site) (s : State) → IsKept site s → arrived s ≡ s
arrived-kept site s sound =
    arrived-parts s
    (map-same (arrived_task s.clock (place_of s.paths)) s.tasks (λ n task is.
    arrived-none s.clock (place_of s.paths) task (λ agent has.
    elim (cases_lt (visited task) (length task.stops)) [
      | inl more ↦ sound.settled.stuck n task agent is (record { agent_is = has; more = more })
      | inr over ↦ stops_left-over (place_of s.paths agent) task over
    ])))
    (map-same (arrived_load s.tasks) s.loads (λ agent load is.
    let known : agent < length s.paths = (let h = slice_get_within s.loads agent load is in let e = sound.working.seats in omega arith) in
    let this : load_of s agent ≡ load = get_or_from_slice_get s.loads agent load Load.None is in
    subst (λ l. arrived_load s.tasks l ≡ l) this (elim (sound.working.loads agent known) [
      | inl none ↦ subst (λ l. arrived_load s.tasks l ≡ l) (sym none) refl
      | inr has ↦ subst (λ l. arrived_load s.tasks l ≡ l) (sym has.load) (load_for-arrived has.number has.task s.tasks has.there)
    ])))

-- what a load tells of a task underway
fetched : (n m agent : ℕ) (task : Task) → IsUnderway agent task → load_for m task ≡ Load.Fetching n → (m ≡ n) × (phase task ≡ Phase.Assigned)
fetched n m agent task way e = elim (comes_to m task) [
  | is_open o p l ↦ absurd (let clash : Load.None ≡ Load.Fetching n = sym l ∙ e in cc)
  | is_assigned a o s p l ↦ (let same : Load.Fetching m ≡ Load.Fetching n = sym l ∙ e in cc, p)
  | is_carried a o s u p l ↦ absurd (let clash : Load.Carrying m (visited task) ≡ Load.Fetching n = sym l ∙ e in cc)
  | is_done a o s u p l ↦ absurd (let clash : Load.None ≡ Load.Fetching n = sym l ∙ e in cc)
]

carried : (n seen m agent : ℕ) (task : Task) → IsUnderway agent task → load_for m task ≡ Load.Carrying n seen →
    (m ≡ n) × (phase task ≡ Phase.Carried) × (visited task ≡ seen)
carried n seen m agent task way e = elim (comes_to m task) [
  | is_open o p l ↦ absurd (let clash : Load.None ≡ Load.Carrying n seen = sym l ∙ e in cc)
  | is_assigned a o s p l ↦ absurd (let clash : Load.Fetching m ≡ Load.Carrying n seen = sym l ∙ e in cc)
  | is_carried a o s u p l ↦ (
    let same : Load.Carrying m (visited task) ≡ Load.Carrying n seen = sym l ∙ e in cc,
    p,
    let same : Load.Carrying m (visited task) ≡ Load.Carrying n seen = sym l ∙ e in cc,
  )
  | is_done a o s u p l ↦ absurd (let clash : Load.None ≡ Load.Carrying n seen = sym l ∙ e in cc)
]

-- an assigned task is underway, and its agent fetches it
assigned-load : (n : ℕ) (task : Task) → phase task ≡ Phase.Assigned → 1 ≤ length task.stops → (visited task < length task.stops) × (load_for n task ≡ Load.Fetching n)
assigned-load n task e some = elim (comes_to n task) [
  | is_open o p l ↦ absurd (let clash : Phase.Open ≡ Phase.Assigned = sym p ∙ e in cc)
  | is_assigned a o s p l ↦ (omega arith, l)
  | is_carried a o s u p l ↦ absurd (let clash : Phase.Carried ≡ Phase.Assigned = sym p ∙ e in cc)
  | is_done a o s u p l ↦ absurd (let clash : Phase.Done ≡ Phase.Assigned = sym p ∙ e in cc)
]

carried-load : (n : ℕ) (task : Task) → phase task ≡ Phase.Carried → (visited task < length task.stops) × (load_for n task ≡ Load.Carrying n (visited task))
carried-load n task e = elim (comes_to n task) [
  | is_open o p l ↦ absurd (let clash : Phase.Open ≡ Phase.Carried = sym p ∙ e in cc)
  | is_assigned a o s p l ↦ absurd (let clash : Phase.Assigned ≡ Phase.Carried = sym p ∙ e in cc)
  | is_carried a o s u p l ↦ (u, l)
  | is_done a o s u p l ↦ absurd (let clash : Phase.Done ≡ Phase.Carried = sym p ∙ e in cc)
]

pub done-visited : (task : Task) → visited task ≤ length task.stops → phase task ≡ Phase.Done → visited task ≡ length task.stops
done-visited task few e = elim (comes_to 0 task) [
  | is_open o p l ↦ absurd (let clash : Phase.Open ≡ Phase.Done = sym p ∙ e in cc)
  | is_assigned a o s p l ↦ absurd (let clash : Phase.Assigned ≡ Phase.Done = sym p ∙ e in cc)
  | is_carried a o s u p l ↦ absurd (let clash : Phase.Carried ≡ Phase.Done = sym p ∙ e in cc)
  | is_done a o s u p l ↦ omega arith
]

pub loads-kept : (site : Site) (s : State) (agent : ℕ) → IsKept site s → agent < length s.paths → LoadsAgree s agent
loads-kept site s agent sound known =
    let w = sound.working in
    record {
      fetching = λ n. (
        λ e. elim (w.loads agent known) [
          | inl none ↦ absurd (let clash : Load.None ≡ Load.Fetching n = sym none ∙ e in cc)
          | inr has ↦
              let f = fetched n has.number agent has.task has.underway (sym has.load ∙ e) in
              (has.task, subst (λ k. IsTask s.tasks k has.task) f.0 has.there, has.underway.agent_is, f.1)
        ],
        λ t.
            let some : 1 ≤ length t.0.stops = (let c = (sound.orderly.stops n t.0 t.1).count in omega arith) in
            let a = assigned-load n t.0 t.3 some in
            (w.busy n t.0 agent t.1 (record { agent_is = t.2; more = a.0 })).load ∙ a.1,
      );
      carrying = λ n seen. (
        λ e. elim (w.loads agent known) [
          | inl none ↦ absurd (let clash : Load.None ≡ Load.Carrying n seen = sym none ∙ e in cc)
          | inr has ↦
              let f = carried n seen has.number agent has.task has.underway (sym has.load ∙ e) in
              (has.task, subst (λ k. IsTask s.tasks k has.task) f.0 has.there, has.underway.agent_is, f.1, f.2)
        ],
        λ t.
            let a = carried-load n t.0 t.3 in
            (w.busy n t.0 agent t.1 (record { agent_is = t.2; more = a.0 })).load ∙ a.1 ∙ ap (λ k. Load.Carrying n k) t.4,
      );
    }
