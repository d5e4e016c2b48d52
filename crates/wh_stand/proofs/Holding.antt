-- who holds a task, and the loads that tasks tell
use Rattle.std.proofs.Common.{◌≡◌, ◌≢◌, ℕ, ◌+◌, ◌≤◌, ◌∙◌, ◌⊎◌, inl, inr, List, [], ◌∷◌, ◌++◌, Bool, true, false, ◌&&◌, Option, Some, None, cond, length, sym, refl, ap, arith, eq-eqb}
use Prim.Native.Nat.{zero, suc}
use Rattle.std.specs.Cmp.Derive.{both_true}
use Rattle.std.proofs.lemmas.Bool.{eqb-true, ltb-true, false≢true}
use Rattle.std.proofs.lemmas.Option.{same_Some}
use Rattle.wh_tasks.specs.declared.task.Task.{Task}
use Rattle.wh_tasks.specs.declared.task.Load.{Load}
use Rattle.wh_tasks.specs.declared.task.Phase.{Phase}
use Rattle.wh_tasks.specs.Tasks.{IsTask, visited, phase, load_for}
use Rattle.wh_tasks.specs.Loads.{task_of}
use Rattle.wh_tasks.proofs.Visiting.{bool_cases}
use Rattle.wh_tasks.proofs.Loads.{IsUnderway, is_open, is_assigned, is_carried, is_done, comes_to, underway-load, lt-ltb}
use Rattle.wh_core.proofs.Work.{no-task}
use Rattle.wh_stand.specs.Parts.{is_agent, holds, load_from}
use Rattle.wh_stand.specs.TaskFlaws.{IsHeld}

pub underway-held : (agent : ℕ) (task : Task) → IsUnderway agent task → IsHeld agent task
underway-held agent task w = record { agent_is = w.agent_is; left = w.more }

pub held-underway : (agent : ℕ) (task : Task) → IsHeld agent task → IsUnderway agent task
held-underway agent task h = record { agent_is = h.agent_is; more = h.left }

and_two : (a b : Bool) → (a && b) ≡ true → (a ≡ true) × (b ≡ true)
and_two true true h = (refl, refl)
and_two true false h = absurd cc
and_two false b h = absurd cc

is_agent-some : (agent : ℕ) (o : Option ℕ) → is_agent agent o ≡ true → o ≡ Some agent
is_agent-some agent None h = absurd cc
is_agent-some agent (Some a) h = ap (λ k. Some k) (eqb-true a agent h)

pub held-holds : (agent : ℕ) (task : Task) → IsHeld agent task → holds agent task ≡ true
held-holds agent task h = both_true (lt-ltb (visited task) (length task.stops) h.left) (ap (is_agent agent) h.agent_is ∙ eq-eqb agent agent refl)

pub holds-held : (agent : ℕ) (task : Task) → holds agent task ≡ true → IsHeld agent task
holds-held agent task h =
    let two = and_two _ _ h in
    record { agent_is = is_agent-some agent task.agent two.1; left = ltb-true _ _ two.0 }

-- a held task gives a load
pub held-load : (n agent : ℕ) (task : Task) → IsHeld agent task → load_for n task ≢ Load.None
held-load n agent task h none = elim (underway-load n agent task (held-underway agent task h)) [
  | inl f ↦ absurd (let clash : Load.Fetching n ≡ Load.None = sym f ∙ none in cc)
  | inr c ↦ absurd (let clash : Load.Carrying n (visited task) ≡ Load.None = sym c ∙ none in cc)
]

-- which names it
pub held-task : (n agent : ℕ) (task : Task) → IsHeld agent task → task_of (load_for n task) ≡ Some n
held-task n agent task h = elim (underway-load n agent task (held-underway agent task h)) [
  | inl f ↦ ap task_of f
  | inr c ↦ ap task_of c
]

pub held-number : (n k agent : ℕ) (task t : Task) → IsHeld agent task → IsHeld agent t → load_for n task ≡ load_for k t → n ≡ k
held-number n k agent task t one two e = elim (underway-load n agent task (held-underway agent task one)) [
  | inl f ↦ elim (underway-load k agent t (held-underway agent t two)) [
    | inl g ↦ (let same : Load.Fetching n ≡ Load.Fetching k = sym f ∙ e ∙ g in cc)
    | inr g ↦ absurd (let clash : Load.Fetching n ≡ Load.Carrying k (visited t) = sym f ∙ e ∙ g in cc)
  ]
  | inr f ↦ elim (underway-load k agent t (held-underway agent t two)) [
    | inl g ↦ absurd (let clash : Load.Carrying n (visited task) ≡ Load.Fetching k = sym f ∙ e ∙ g in cc)
    | inr g ↦ (let same : Load.Carrying n (visited task) ≡ Load.Carrying k (visited t) = sym f ∙ e ∙ g in cc)
  ]
]

-- the agent holds none of the tasks
abbrev pub HoldsNone : List Task → ℕ → Type 0
HoldsNone tasks agent = (k : ℕ) (task : Task) → IsTask tasks k task → ¬ IsHeld agent task

-- the load is that of a task which the agent holds
pub record HasHeld (tasks : List Task) (agent n : ℕ) (load : Load) : Type 0 where
  pub number : ℕ
  pub task : Task
  pub there : IsTask tasks number task
  pub held : IsHeld agent task
  pub load_is : load ≡ load_for (n + number) task

none-more : (t : Task) (tasks : List Task) (agent : ℕ) → holds agent t ≡ false → HoldsNone tasks agent → HoldsNone (t ∷ tasks) agent
none-more t tasks agent e none zero task is = λ h. (
    let same : t ≡ task = same_Some t task is in
    let yes = held-holds agent task h in
    let no = ap (holds agent) (sym same) ∙ e in
    absurd (false≢true (sym no ∙ yes)))
none-more t tasks agent e none (suc k) task is = none k task is

pub told-cases : (tasks : List Task) (agent n : ℕ) →
    (HoldsNone tasks agent × (load_from agent n tasks ≡ Load.None)) ⊎ HasHeld tasks agent n (load_from agent n tasks)
told-cases [] agent n = inl (λ k task is. absurd (no-task k task is), refl)
told-cases (t ∷ tasks) agent n = elim (bool_cases (holds agent t)) [
  | inl e ↦ inr (record {
    number = 0;
    task = t;
    there = refl;
    held = holds-held agent t e;
    load_is = ap (λ b. cond b (load_for n t) (load_from agent (suc n) tasks)) e ∙ ap (λ k. load_for k t) (let z : n ≡ n + 0 = omega arith in z);
  })
  | inr e ↦
      let skip : load_from agent n (t ∷ tasks) ≡ load_from agent (suc n) tasks = ap (λ b. cond b (load_for n t) (load_from agent (suc n) tasks)) e in
      elim (told-cases tasks agent (suc n)) [
        | inl none ↦ inl (none-more t tasks agent e none.0, skip ∙ none.1)
        | inr has ↦ inr (record {
          number = suc has.number;
          task = has.task;
          there = has.there;
          held = has.held;
          load_is = skip ∙ has.load_is ∙ ap (λ k. load_for k has.task) (let z : suc n + has.number ≡ n + suc has.number = omega arith in z);
        })
      ]
]

-- one task more
pub told-push_other : (tasks : List Task) (agent n : ℕ) (task : Task) → holds agent task ≡ false → load_from agent n (tasks ++ task ∷ []) ≡ load_from agent n tasks
told-push_other [] agent n task e = ap (λ b. cond b (load_for n task) Load.None) e
told-push_other (t ∷ tasks) agent n task e = ap (λ l. cond (holds agent t) (load_for n t) l) (told-push_other tasks agent (suc n) task e)

pub told-push_held : (tasks : List Task) (agent n m : ℕ) (task : Task) → HoldsNone tasks agent → holds agent task ≡ true → n + length tasks ≡ m →
    load_from agent n (tasks ++ task ∷ []) ≡ load_for m task
told-push_held [] agent n m task none e size = ap (λ b. cond b (load_for n task) Load.None) e ∙ ap (λ k. load_for k task) (let z : n ≡ m = omega arith in z)
told-push_held (t ∷ tasks) agent n m task none e size = elim (bool_cases (holds agent t)) [
  | inl has ↦ absurd (none 0 t refl (holds-held agent t has))
  | inr lacks ↦
      ap (λ b. cond b (load_for n t) (load_from agent (suc n) (tasks ++ task ∷ []))) lacks
      ∙ told-push_held tasks agent (suc n) m task (λ k u is. none (suc k) u is) e (omega arith)
]

-- an agent that holds none has no load, and the other way round
pub told-none : (tasks : List Task) (agent n : ℕ) → load_from agent n tasks ≡ Load.None → HoldsNone tasks agent
told-none tasks agent n e = elim (told-cases tasks agent n) [
  | inl none ↦ none.0
  | inr has ↦ absurd (held-load (n + has.number) agent has.task has.held (sym has.load_is ∙ e))
]

pub none-told : (tasks : List Task) (agent n : ℕ) → HoldsNone tasks agent → load_from agent n tasks ≡ Load.None
none-told tasks agent n none = elim (told-cases tasks agent n) [
  | inl e ↦ e.1
  | inr has ↦ absurd (none has.number has.task has.there has.held)
]

-- who holds a task fetches or carries it, and the other way round
pub held-phase : (agent : ℕ) (task : Task) → IsHeld agent task → (phase task ≡ Phase.Assigned) ⊎ (phase task ≡ Phase.Carried)
held-phase agent task h = elim (comes_to 0 task) [
  | is_open o p l ↦ absurd (let clash : None ≡ Some agent = sym o ∙ h.agent_is in cc)
  | is_assigned a o s p l ↦ inl p
  | is_carried a o s u p l ↦ inr p
  | is_done a o s u p l ↦ absurd (let left = h.left in omega arith)
]

pub phase-held : (agent : ℕ) (task : Task) → task.agent ≡ Some agent → 1 ≤ length task.stops → (phase task ≡ Phase.Assigned) ⊎ (phase task ≡ Phase.Carried) → IsHeld agent task
phase-held agent task has some underway = record {
  agent_is = has;
  left = elim (comes_to 0 task) [
    | is_open o p l ↦ absurd (let clash : None ≡ Some agent = sym o ∙ has in cc)
    | is_assigned a o s p l ↦ omega arith
    | is_carried a o s u p l ↦ u
    | is_done a o s u p l ↦ absurd (elim underway [
      | inl e ↦ (let clash : Phase.Done ≡ Phase.Assigned = sym p ∙ e in cc)
      | inr e ↦ (let clash : Phase.Done ≡ Phase.Carried = sym p ∙ e in cc)
    ])
  ];
}
