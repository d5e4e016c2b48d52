-- the loads that tasks tell, with one agent or one task more
use Rattle.std.proofs.Common.{◌≡◌, ℕ, ◌+◌, ◌<◌, ◌∙◌, inl, inr, List, [], ◌∷◌, ◌++◌, None, Some, length, map, get_or, sym, subst, ap, arith}
use Rattle.std.specs.List.{range_with_len}
use Rattle.std.proofs.Math.ListN.{set}
use Rattle.std.proofs.lemmas.Bool.{cases_eq, false≢true}
use Rattle.std.proofs.lemmas.List.{length_push, length-set, get_or-set_same, get_or-set_other, get_or_default, ext_get_or}
use Rattle.std.proofs.lemmas.List.FromFn.{length-map-range_with_len, get_or-map-range_with_len, map-range_with_len_more}
use Rattle.std.proofs.lemmas.Option.{same_Some}
use Rattle.wh_grid.specs.declared.cell.Cell.{Cell}
use Rattle.wh_tasks.specs.declared.task.Task.{Task}
use Rattle.wh_tasks.specs.declared.task.Load.{Load}
use Rattle.wh_tasks.specs.Tasks.{IsTask, load_for}
use Rattle.wh_tasks.specs.Loads.{task_of}
use Rattle.wh_tasks.proofs.Visiting.{bool_cases, option_cases}
use Rattle.wh_core.specs.States.{State}
use Rattle.wh_stand.specs.Parts.{state_of, parts_of, holds, told_load}
use Rattle.wh_stand.specs.Columns.{IsTold, AllKnown}
use Rattle.wh_stand.specs.TaskFlaws.{IsHeld, HasKnown, IsAlone, IsSecond}
use Rattle.wh_stand.proofs.Holding.{HoldsNone, holds-held, held-holds, none-told, told-cases, held-task, told-push_other, told-push_held}
use Rattle.wh_stand.proofs.Soundness.{held-own, own-held}

-- the loads of agents 0 to count - 1
abbrev pub loads_told : List Task → ℕ → List Load
loads_told tasks count = map (told_load tasks) (range_with_len 0 count)

pub told-from : (s : State) → s.loads ≡ loads_told s.tasks (length s.paths) → IsTold s
told-from s e = ap (λ ls. record s { loads = ls }) e

pub told-loads : (s : State) → IsTold s → s.loads ≡ loads_told s.tasks (length s.paths)
told-loads s told = ap (λ (t : State). t.loads) told

pub told-agent : (s : State) (path : List Cell) → IsTold s → AllKnown s → s.loads ++ Load.None ∷ [] ≡ loads_told s.tasks (length (s.paths ++ path ∷ []))
told-agent s path told known =
    let n = length s.paths in
    let size : length (s.paths ++ path ∷ []) ≡ n + 1 = (let z = length_push s.paths path in omega arith) in
    let nothing : HoldsNone s.tasks n = λ k task is h. (let l = known k task is n h.agent_is in omega arith) in
    let last : told_load s.tasks n ≡ Load.None = none-told s.tasks n 0 nothing in
    ap (λ ls. ls ++ Load.None ∷ []) (told-loads s told) ∙ ap (λ l. loads_told s.tasks n ++ l ∷ []) (sym last)
    ∙ sym (map-range_with_len_more (told_load s.tasks) 0 n n (let z : 0 + n ≡ n = omega arith in z)) ∙ ap (loads_told s.tasks) (sym size)

-- the loads agree where they tell the same of each agent
told-same : (tasks more : List Task) (count : ℕ) → ((agent : ℕ) → agent < count → told_load more agent ≡ told_load tasks agent) →
    loads_told tasks count ≡ loads_told more count
told-same tasks more count each =
    let a = length-map-range_with_len (told_load tasks) 0 count in
    let b = length-map-range_with_len (told_load more) 0 count in
    ext_get_or Load.None (loads_told tasks count) (loads_told more count) (a ∙ sym b) (λ i h.
    let l : i < count = omega arith in
    let z : 0 + i ≡ i = omega arith in
    get_or-map-range_with_len (told_load tasks) 0 count i i Load.None l z ∙ sym (each i l) ∙ sym (get_or-map-range_with_len (told_load more) 0 count i i Load.None l z))

-- a task that nobody holds
pub told-free : (s : State) (task : Task) → IsTold s → ((agent : ℕ) → ¬ IsHeld agent task) → s.loads ≡ loads_told (s.tasks ++ task ∷ []) (length s.paths)
told-free s task told free =
    told-loads s told ∙ told-same s.tasks (s.tasks ++ task ∷ []) (length s.paths) (λ agent h. told-push_other s.tasks agent 0 task (elim (bool_cases (holds agent task)) [
      | inl e ↦ absurd (free agent (holds-held agent task e))
      | inr e ↦ e
    ]))

-- a task that somebody holds who held none
pub told-held : (s : State) (task : Task) (agent n : ℕ) → IsTold s → n ≡ length s.tasks → agent < length s.paths → IsHeld agent task → HoldsNone s.tasks agent →
    set s.loads agent (load_for n task) ≡ loads_told (s.tasks ++ task ∷ []) (length s.paths)
told-held s task agent n told number known held none =
    let count = length s.paths in
    let new = s.tasks ++ task ∷ [] in
    let loads = told-loads s told in
    let size = length-map-range_with_len (told_load s.tasks) 0 count in
    let here : length s.loads ≡ count = ap (λ (ls : List Load). length ls) loads ∙ size in
    let after = length-map-range_with_len (told_load new) 0 count in
    let changed = length-set s.loads agent (load_for n task) in
    ext_get_or Load.None (set s.loads agent (load_for n task)) (loads_told new count) (changed ∙ here ∙ sym after) (λ i h.
    let l : i < count = omega arith in
    let z : 0 + i ≡ i = omega arith in
    let read = get_or-map-range_with_len (told_load new) 0 count i i Load.None l z in
    elim (cases_eq i agent) [
      | inl same ↦
          let this : i < length s.loads = omega arith in
          let mine : IsHeld i task = subst (λ a. IsHeld a task) (sym same) held in
          ap (λ a. get_or (set s.loads a (load_for n task)) i Load.None) (sym same) ∙ get_or-set_same s.loads i (load_for n task) Load.None this
          ∙ sym (told-push_held s.tasks i 0 n task (subst (λ a. HoldsNone s.tasks a) (sym same) none) (held-holds i task mine) (omega arith)) ∙ sym read
      | inr other ↦
          get_or-set_other s.loads agent i (load_for n task) Load.None other ∙ ap (λ (ls : List Load). get_or ls i Load.None) loads
          ∙ get_or-map-range_with_len (told_load s.tasks) 0 count i i Load.None l z
          ∙ sym (told-push_other s.tasks i 0 task (elim (bool_cases (holds i task)) [
            | inl e ↦ absurd (other (let two = holds-held i task e in same_Some i agent (sym two.agent_is ∙ held.agent_is)))
            | inr e ↦ e
          ])) ∙ sym read
    ])

pub alone-none : (s : State) (task : Task) (agent : ℕ) → IsAlone (parts_of s) task → IsHeld agent task → HoldsNone s.tasks agent
alone-none s task agent alone held k other is has = alone agent k other held (held-own (state_of (parts_of s)) agent k other is has)

pub told-size : (s : State) → IsTold s → length s.loads ≡ length s.paths
told-size s told = ap (λ (ls : List Load). length ls) (told-loads s told) ∙ length-map-range_with_len (told_load s.tasks) 0 (length s.paths)

-- a task more, which whoever holds it has from then on
pub told-task : (s : State) (task : Task) (n : ℕ) (after : List Load) → IsTold s → HasKnown s.paths task → IsAlone (parts_of s) task → n ≡ length s.tasks →
    ((agent : ℕ) → IsHeld agent task → after ≡ set s.loads agent (load_for n task)) → (((agent : ℕ) → ¬ IsHeld agent task) → after ≡ s.loads) →
    after ≡ loads_told (s.tasks ++ task ∷ []) (length s.paths)
told-task s task n after told known alone number held free = elim (option_cases task.agent) [
  | inl none ↦
      let nobody : (agent : ℕ) → ¬ IsHeld agent task = λ agent h. (let clash : None ≡ Some agent = sym none ∙ h.agent_is in absurd cc) in
      free nobody ∙ told-free s task told nobody
  | inr some ↦ elim (bool_cases (holds some.0 task)) [
    | inl e ↦
        let mine = holds-held some.0 task e in
        held some.0 mine ∙ told-held s task some.0 n told number (known some.0 some.1) mine (alone-none s task some.0 alone mine)
    | inr e ↦
        let nobody : (agent : ℕ) → ¬ IsHeld agent task = λ agent h.
        let same : agent ≡ some.0 = same_Some agent some.0 (sym h.agent_is ∙ some.1) in
        let yes_held = held-holds some.0 task (subst (λ a. IsHeld a task) same h) in
        absurd (false≢true (sym e ∙ yes_held)) in
        free nobody ∙ told-free s task told nobody
  ]
]

-- what a load in the columns tells of the tasks
pub told-read : (s : State) (agent : ℕ) → IsTold s → agent < length s.paths → get_or s.loads agent Load.None ≡ told_load s.tasks agent
told-read s agent told h =
    ap (λ (ls : List Load). get_or ls agent Load.None) (told-loads s told)
    ∙ get_or-map-range_with_len (told_load s.tasks) 0 (length s.paths) agent agent Load.None h (let z : 0 + agent ≡ agent = omega arith in z)

pub named-second : (s : State) (task : Task) (agent n : ℕ) → task_of (told_load s.tasks agent) ≡ Some n → IsHeld agent task → IsSecond (parts_of s) task n
named-second s task agent n e held = elim (told-cases s.tasks agent 0) [
  | inl none ↦ absurd (let clash : None ≡ Some n = sym (ap task_of none.1) ∙ e in cc)
  | inr has ↦
      let same : 0 + has.number ≡ n = same_Some _ n (sym (held-task (0 + has.number) agent has.task has.held) ∙ sym (ap task_of has.load_is) ∙ e) in
      let number : has.number ≡ n = omega arith in
      record {
        agent = agent;
        held = held;
        other = has.task;
        own = held-own (state_of (parts_of s)) agent n has.task (subst (λ k. IsTask s.tasks k has.task) number has.there) has.held;
      }
]

pub unnamed-none : (s : State) (agent : ℕ) → task_of (told_load s.tasks agent) ≡ None → HoldsNone s.tasks agent
unnamed-none s agent e = elim (told-cases s.tasks agent 0) [
  | inl none ↦ none.0
  | inr has ↦ absurd (let clash : Some (0 + has.number) ≡ None = sym (held-task (0 + has.number) agent has.task has.held) ∙ sym (ap task_of has.load_is) ∙ e in cc)
]

-- the agent of the task is the only one that may hold it
pub held-same : (task : Task) (agent other : ℕ) → task.agent ≡ Some agent → IsHeld other task → other ≡ agent
held-same task agent other has held = same_Some other agent (sym held.agent_is ∙ has)

pub none-alone : (s : State) (task : Task) (agent : ℕ) → task.agent ≡ Some agent → HoldsNone s.tasks agent → IsAlone (parts_of s) task
none-alone s task agent has none who n other held own =
    let same = held-same task agent who has held in
    none n other own.there (subst (λ a. IsHeld a other) same (own-held (state_of (parts_of s)) who n other own))

load-read : (s : State) (agent : ℕ) (load : Load) → IsTold s → agent < length s.paths → load ≡ get_or s.loads agent load → load ≡ told_load s.tasks agent
load-read s agent load told h read =
    let size = told-size s told in
    read ∙ get_or_default s.loads agent load Load.None (omega arith) ∙ told-read s agent told h

-- what the load of a task's agent tells of that task
pub duty-second : (s : State) (task : Task) (agent n : ℕ) (load : Load) → IsTold s → agent < length s.paths → load ≡ get_or s.loads agent load → task_of load ≡ Some n →
    IsHeld agent task → IsSecond (parts_of s) task n
duty-second s task agent n load told h read named held =
    named-second s task agent n (sym (ap task_of (load-read s agent load told h read)) ∙ named) held

pub duty-alone : (s : State) (task : Task) (agent : ℕ) (load : Load) → IsTold s → agent < length s.paths → load ≡ get_or s.loads agent load → task_of load ≡ None →
    task.agent ≡ Some agent → IsAlone (parts_of s) task
duty-alone s task agent load told h read unnamed has =
    none-alone s task agent has (unnamed-none s agent (sym (ap task_of (load-read s agent load told h read)) ∙ unnamed))
