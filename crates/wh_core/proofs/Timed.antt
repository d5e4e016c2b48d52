-- the clocks of a task lie in order
use Rattle.std.proofs.Common.{◌≡◌, ℕ, ◌+◌, ◌-◌, ◌<◌, ◌≤◌, ◌∙◌, ◌⊎◌, inl, inr, List, ◌++◌, Option, Some, length, get_or, sym, subst, arith, length-append}
use Rattle.std.specs.Prelude.{replicate}
use Rattle.std.proofs.Math.ListN.{get_or-append, get_or-replicate}
use Rattle.std.proofs.Math.Seq.{get_or-append_right}
use Rattle.std.proofs.lemmas.Bool.{cases_lt}
use Rattle.std.proofs.lemmas.List.{length-replicate}
use Rattle.std.proofs.lemmas.Option.{slice_get_within}
use Rattle.wh_grid.specs.declared.cell.Cell.{Cell}
use Rattle.wh_points.specs.Points.{Site}
use Rattle.wh_tasks.specs.declared.task.Task.{Task}
use Rattle.wh_tasks.specs.Tasks.{IsTask}
use Rattle.wh_tasks.specs.Arrivals.{arrived_task, arrived_tasks}
use Rattle.wh_tasks.proofs.Visiting.{arrived-adds}
use Rattle.wh_core.specs.States.{State}
use Rattle.wh_core.specs.Laws.{IsOpening, IsTimed}
use Rattle.wh_core.proofs.StepKinds.{Moves, stays, adds, takes, continues, parks, ticks}
use Rattle.wh_core.proofs.Lists.{map_from}
use Rattle.wh_core.proofs.Work.{set-from, added-from, no-task}

-- a visit is an old one, or made at this clock
pub visit-cases : (visits : List ℕ) (m clock i : ℕ) → i < length (visits ++ replicate m clock) →
    ((i < length visits) × (get_or (visits ++ replicate m clock) i 0 ≡ get_or visits i 0))
    ⊎ ((length visits ≤ i) × (get_or (visits ++ replicate m clock) i 0 ≡ clock))
visit-cases visits m clock i h = elim (cases_lt i (length visits)) [
  | inl l ↦ inl (l, get_or-append visits (replicate m clock) 0 i l)
  | inr l ↦
      let size = length-append visits (replicate m clock) in
      let more = length-replicate m clock in
      inr (l, get_or-append_right visits (replicate m clock) i 0 l ∙ get_or-replicate m (i - length visits) clock 0 (omega arith))
]

timed-visited : (clock m : ℕ) (task : Task) → IsTimed clock task → IsTimed clock (record task { visits = task.visits ++ replicate m clock })
timed-visited clock m task t = record {
  submitted = t.submitted;
  first = λ i h. elim (visit-cases task.visits m clock i h) [
    | inl old ↦ (let a = old.1 in let b = t.first i old.0 in omega arith)
    | inr new ↦ (let a = new.1 in let b = t.submitted in omega arith)
  ];
  in_order = λ i j le h. elim (visit-cases task.visits m clock j h) [
    | inl old ↦ elim (visit-cases task.visits m clock i (omega arith)) [
      | inl was ↦ (let a = old.1 in let b = was.1 in let c = t.in_order i j le old.0 in omega arith)
      | inr is ↦ absurd (let a = old.0 in let b = is.0 in omega arith)
    ]
    | inr new ↦ elim (visit-cases task.visits m clock i (omega arith)) [
      | inl was ↦ (let a = new.1 in let b = was.1 in let c = t.last i was.0 in omega arith)
      | inr is ↦ (let a = new.1 in let b = is.1 in omega arith)
    ]
  ];
  last = λ i h. elim (visit-cases task.visits m clock i h) [
    | inl old ↦ (let a = old.1 in let b = t.last i old.0 in omega arith)
    | inr new ↦ (let a = new.1 in omega arith)
  ];
}

timed-later : (clock later : ℕ) (task : Task) → clock ≤ later → IsTimed clock task → IsTimed later task
timed-later clock later task le t = record {
  submitted = (let a = t.submitted in omega arith);
  first = t.first;
  in_order = t.in_order;
  last = λ i h. (let a = t.last i h in omega arith);
}

timed-assigned : (clock : ℕ) (agent : Option ℕ) (task : Task) → IsTimed clock task → IsTimed clock (record task { agent = agent })
timed-assigned clock agent task t = record { submitted = t.submitted; first = t.first; in_order = t.in_order; last = t.last }

abbrev pub AllTimed : ℕ → List Task → Type 0
AllTimed clock tasks = (n : ℕ) (task : Task) → IsTask tasks n task → IsTimed clock task

timed-arrived : (clock : ℕ) (place : ℕ → Cell) (tasks : List Task) → AllTimed clock tasks → AllTimed clock (arrived_tasks clock place tasks)
timed-arrived clock place tasks all n task is =
    let from = map_from (arrived_task clock place) tasks n task is in
    let added = arrived-adds clock place from.0 in
    subst (λ t. IsTimed clock t) (sym added.1 ∙ from.2) (timed-visited clock added.0 from.0 (all n from.0 from.1))

pub timed-moves : (site : Site) (old new : State) → AllTimed old.clock old.tasks → Moves site old new → AllTimed new.clock new.tasks
timed-moves site old new all m = elim m [
  | stays c p l t z ↦
      subst (λ k. AllTimed k new.tasks) (sym c) (subst (λ ts. AllTimed old.clock ts) (sym t) all)
  | adds client names cells room count few stations e ↦ subst (λ s. AllTimed s.clock s.tasks) (sym e) (λ n task is.
      elim (added-from old.tasks _ n task is) [
        | inl last ↦ subst (λ t. IsTimed old.clock t) last (record {
          submitted = omega arith;
          first = λ i h. absurd (omega arith);
          in_order = λ i j le h. absurd (omega arith);
          last = λ i h. absurd (omega arith);
        })
        | inr there ↦ all n task there
      ])
  | continues agent n task path due own lawful e ↦ subst (λ s. AllTimed s.clock s.tasks) (sym e) (timed-arrived old.clock _ _ all)
  | takes agent n task path due none next lawful e ↦ subst (λ s. AllTimed s.clock s.tasks) (sym e) (timed-arrived old.clock _ _ (λ k t is.
      elim (set-from old.tasks n (record task { agent = Some agent }) k t (slice_get_within old.tasks n task next.eligible.there) is) [
        | inl new_one ↦ subst (λ u. IsTimed old.clock u) new_one.1 (timed-assigned old.clock (Some agent) task (all n task next.eligible.there))
        | inr before ↦ all k t before.1
      ]))
  | parks agent path due way lawful e ↦ subst (λ s. AllTimed s.clock s.tasks) (sym e) all
  | ticks fits e ↦ subst (λ s. AllTimed s.clock s.tasks) (sym e) (timed-arrived (old.clock + 1) _ _ (λ k t is.
      timed-later old.clock (old.clock + 1) t (omega arith) (all k t is)))
]

pub timed-opening : (site : Site) (s : State) → IsOpening site s → AllTimed s.clock s.tasks
timed-opening site s o = subst (λ t. AllTimed t.clock t.tasks) (sym o.is_opened) (λ k t there. absurd (no-task k t there))
