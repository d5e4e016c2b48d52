-- when agents come to their next stops, after each change
use Rattle.std.proofs.Common.{◌≡◌, ◌≢◌, ℕ, ◌+◌, ◌<◌, ◌≤◌, inl, inr, List, [], ◌∷◌, ◌++◌, length, map, get_or, min, ap, sym, ◌∙◌, arith, refl, subst, get_or-set_same, get_or-set_other}
use Rattle.std.specs.Prelude.{Option, Some, None, slice_get}
use Rattle.std.proofs.Math.ListN.{set}
use Rattle.std.proofs.lemmas.Bool.{cases_eq, cases_lt}
use Rattle.std.proofs.lemmas.Option.{same_Some, slice_get_within}
use Rattle.std.proofs.lemmas.List.{length-set, length-map, get_or-map, get_or_past}
use Rattle.wh_grid.specs.declared.cell.Cell.{Cell}
use Rattle.wh_path.specs.Paths.{at, cell_at, last_index, path_of, advanced}
use Rattle.wh_path.proofs.AtLemmas.{at-within, at-advanced}
use Rattle.wh_tasks.specs.declared.task.Task.{Task}
use Rattle.wh_tasks.specs.declared.task.Load.{Load}
use Rattle.wh_tasks.specs.Tasks.{IsTask}
use Rattle.wh_tasks.specs.Arrivals.{visited_at}
use Rattle.wh_tasks.specs.Changes.{changed_at, fresh, assigned}
use Rattle.wh_tasks.specs.Loads.{task_of, Holds}
use Rattle.wh_tasks.proofs.Edits.{changed_at-set, slice_get-changed_at}
use Rattle.wh_state.specs.Standings.{AreTied, IsLoadOf}
use Rattle.wh_state.specs.Arriving.{visited_by}
use Rattle.wh_state.specs.Dues.{IsAway, IsAwayFor, AreDue, OthersAreDue}
use Rattle.wh_state.proofs.Below.{done-unless}
use Rattle.wh_state.proofs.Ties.{slice_get-push, slice_get-set_same, slice_get-set_other}

-- a path is not at a cell that none of its first cells is
pub at-before : (p : List Cell) (cell : Cell) (i : ℕ) → i ≤ length p → ((j : ℕ) → j < i → cell_at p j ≢ cell) → (k : ℕ) → k < i → at p k ≢ cell
at-before p cell i within none k lt is = none k lt (sym (at-within p k (omega arith)) ∙ is)

-- nor ever where none of its cells is
pub at-never : (p : List Cell) (cell : Cell) → 1 ≤ length p → ((j : ℕ) → j < length p → cell_at p j ≢ cell) → (k : ℕ) → at p k ≢ cell
unfolding at
at-never p cell some none k is = none (min k (last_index p)) (omega arith) is

-- each agent's load is what its tasks leave it to do
pub load-of : (loads : List Load) (tasks : List Task) (agent : ℕ) (load : Load) → AreTied loads tasks → slice_get loads agent ≡ Some load → IsLoadOf tasks agent load
load-of loads tasks agent load tied has = record {
  holds = λ n names. tied.holds agent n load has names;
  done = λ n task there other is. done-unless loads tasks agent n load task tied has there other is;
}

-- an agent is due when it comes to the next stop of its one task
pub due-put : (agent clock : ℕ) (paths : List (List Cell)) (tasks : List Task) (dues : List ℕ) (due : ℕ) → agent < length paths → OthersAreDue agent clock paths tasks dues →
    IsAway clock (path_of paths agent) tasks due agent → AreDue clock paths tasks (set dues agent due)
due-put agent clock paths tasks dues due known others own = record {
  each = length-set dues agent due ∙ others.each;
  away = λ a. elim (cases_eq a agent) [
    | inl same ↦
        let lt : agent < length dues = (let e = others.each in omega arith) in
        subst (λ (x : ℕ). IsAway clock (path_of paths x) tasks (get_or (set dues agent due) x 0) x) (sym same)
        (subst (λ (d : ℕ). IsAway clock (path_of paths agent) tasks d agent) (sym (get_or-set_same dues agent due 0 lt)) own)
    | inr apart ↦ subst (λ (d : ℕ). IsAway clock (path_of paths a) tasks d a) (sym (get_or-set_other dues agent a due 0 apart)) (others.away a apart)
  ];
}

pub away-own : (clock : ℕ) (path : List Cell) (tasks : List Task) (due agent : ℕ) (load : Load) → IsLoadOf tasks agent load →
    ((n : ℕ) → task_of load ≡ Some n → IsAwayFor clock path tasks due n) → IsAway clock path tasks due agent
away-own clock path tasks due agent load own away = λ n task k there is left soon. one (task_of load) refl n task k there is left soon
  where
    one : (named : Option ℕ) → task_of load ≡ named → IsAway clock path tasks due agent
    one None names n task k there is left soon =
        let done = own.done n task there (λ e. (let no : None ≡ Some n = sym names ∙ e in cc)) is in
        absurd (omega arith)
    one (Some m) names n task k there is left soon = elim (cases_eq n m) [
      | inl same ↦ away n (names ∙ ap (λ x. Some x) (sym same)) task k there left soon
      | inr apart ↦
          let done = own.done n task there (λ e. apart (same_Some n m (sym e ∙ names))) is in
          absurd (omega arith)
    ]

others-are : (agent clock : ℕ) (paths : List (List Cell)) (tasks : List Task) (dues : List ℕ) → AreDue clock paths tasks dues → OthersAreDue agent clock paths tasks dues
others-are agent clock paths tasks dues due = record { each = due.each; away = λ a apart. due.away a }

-- after the arrivals of one agent
pub due-visited : (clock : ℕ) (here : Cell) (paths : List (List Cell)) (tasks : List Task) (dues : List ℕ) (agent : ℕ) (load : Load) (named : Option ℕ) (due : ℕ) → agent < length paths →
    task_of load ≡ named → AreDue clock paths tasks dues → IsLoadOf tasks agent load →
    ((n : ℕ) → named ≡ Some n → IsAwayFor clock (path_of paths agent) (visited_by clock here named tasks) due n) →
    AreDue clock paths (visited_by clock here named tasks) (set dues agent due)
due-visited clock here paths tasks dues agent load None due known names are own away =
    due-put agent clock paths tasks dues due known (others-are agent clock paths tasks dues are)
    (away-own clock (path_of paths agent) tasks due agent load own (λ n e. away n (sym names ∙ e)))
due-visited clock here paths tasks dues agent load (Some n) due known names are own away =
    due-put agent clock paths later dues due known
    (record {
      each = are.each;
      away = λ a apart m other k there is left soon. elim (cases_eq m n) [
        | inl same ↦
            let one : other ≡ v task = same_Some other (v task) (sym there ∙ ap (slice_get later) same ∙ there-later) in
            absurd (apart (same_Some a agent (sym is ∙ ap (λ (t : Task). t.agent) one ∙ holds.agent_is)))
        | inr differ ↦ are.away a m other k (before m other differ there) is left soon
      ];
    })
    (λ m other k there is left soon. elim (cases_eq m n) [
      | inl same ↦ away m (ap (λ x. Some x) (sym same)) other k there left soon
      | inr differ ↦
          let done = own.done m other (before m other differ there) (λ e. differ (same_Some m n (sym e ∙ names))) is in
          absurd (omega arith)
    ])
  where
    v : Task → Task
    v t = visited_at clock here t

    holds : Holds tasks agent n load
    holds = own.holds n names

    task : Task
    task = holds.task

    later : List Task
    later = changed_at n v tasks

    there-later : IsTask later n (v task)
    there-later = slice_get-changed_at tasks n v task holds.there

    before : (m : ℕ) (other : Task) → m ≢ n → IsTask later m other → IsTask tasks m other
    before m other differ there = sym (ap (λ ts. slice_get ts m) (changed_at-set tasks n v task holds.there) ∙ slice_get-set_other tasks n m (v task) differ) ∙ there

pub due-opening : (clock : ℕ) (starts : List Cell) (dues : List ℕ) → length dues ≡ length starts → AreDue clock (map (λ cell. cell ∷ []) starts) [] dues
due-opening clock starts dues each = record {
  each = each ∙ sym (length-map starts (λ cell. cell ∷ []));
  away = λ agent n task k there is left soon. cc;
}

pub due-submitted : (clock : ℕ) (paths : List (List Cell)) (tasks : List Task) (dues : List ℕ) (client : List ℕ) (stops : List Cell) → AreDue clock paths tasks dues →
    AreDue clock paths (tasks ++ fresh client stops clock ∷ []) dues
due-submitted clock paths tasks dues client stops are = record {
  each = are.each;
  away = λ agent n task k there is left soon.
      elim (slice_get-push tasks (fresh client stops clock) task n there) [
        | inl before ↦ are.away agent n task k before is left soon
        | inr new ↦ let e : None ≡ Some agent = ap (λ (t : Task). t.agent) (sym new) ∙ is in cc
      ];
}

pub due-moved : (clock : ℕ) (paths : List (List Cell)) (tasks : List Task) (dues : List ℕ) → AreDue clock paths tasks dues → AreDue (clock + 1) (map advanced paths) tasks dues
due-moved clock paths tasks dues are = record {
  each = are.each ∙ sym (length-map paths advanced);
  away = λ agent n task k there is left soon.
      let next : at (path_of (map advanced paths) agent) k ≡ at (path_of paths agent) (k + 1) = ap (λ p. at p k) (path agent) ∙ at-advanced (path_of paths agent) k in
      rw next (are.away agent n task (k + 1) there is left (omega arith));
}
  where
    path : (agent : ℕ) → path_of (map advanced paths) agent ≡ advanced (path_of paths agent)
    path agent = elim (cases_lt agent (length paths)) [
      | inl lt ↦ get_or-map advanced paths agent [] [] lt
      | inr past ↦ get_or_past (map advanced paths) agent [] (rw (length-map paths advanced) past) ∙ sym (ap advanced (get_or_past paths agent [] past))
    ]

-- an agent goes another way
pub others-adopted : (agent clock : ℕ) (paths : List (List Cell)) (tasks : List Task) (dues : List ℕ) (path : List Cell) → AreDue clock paths tasks dues →
    OthersAreDue agent clock (set paths agent path) tasks dues
others-adopted agent clock paths tasks dues path are = record {
  each = are.each ∙ sym (length-set paths agent path);
  away = λ a apart. subst (λ (p : List Cell). IsAway clock p tasks (get_or dues a 0) a) (sym (get_or-set_other paths agent a path [] apart)) (are.away a);
}

-- an agent gets a task
pub others-assigned : (agent clock : ℕ) (paths : List (List Cell)) (tasks : List Task) (dues : List ℕ) (n : ℕ) (task : Task) → IsTask tasks n task → OthersAreDue agent clock paths tasks dues →
    OthersAreDue agent clock paths (set tasks n (assigned agent task)) dues
others-assigned agent clock paths tasks dues n task there are = record {
  each = are.each;
  away = λ a apart m other k at_m is left soon. elim (cases_eq m n) [
    | inl same ↦
        let one : other ≡ assigned agent task = same_Some other (assigned agent task)
        (sym at_m ∙ ap (slice_get (set tasks n (assigned agent task))) same ∙ slice_get-set_same tasks n (assigned agent task) (slice_get_within tasks n task there)) in
        absurd (apart (same_Some a agent (sym is ∙ ap (λ (t : Task). t.agent) one)))
    | inr differ ↦ are.away a apart m other k (sym (slice_get-set_other tasks n m (assigned agent task) differ) ∙ at_m) is left soon
  ];
}
