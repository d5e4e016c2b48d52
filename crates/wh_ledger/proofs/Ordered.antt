-- the clients stand in order of their first tasks, and the phases of a client's tasks add up
use Rattle.std.proofs.Common.{◌≡◌, ℕ, suc, ◌+◌, ◌<◌, List, [], ◌∷◌, Bool, true, false, not, cond, length, filter, get_or, All, Contains, refl, ap, ◌∙◌, arith}
use Rattle.std.specs.List.{list_any}
use Rattle.std.specs.Str.{bytes_eq}
use Rattle.std.specs.Cmp.Lexicographic.{bytes_decides}
use Rattle.std.proofs.lemmas.Cmp.{nat_list_eq_equiv}
use Rattle.std.proofs.lemmas.List.Elements.{All-filter, All-cons, All-nil}
use Rattle.std.proofs.lemmas.List.Kept.{AllPairs-filter, AllPairs-cons}
use Rattle.std.proofs.lemmas.List.Sums.{sum_by-cons}
use Rattle.std.proofs.lemmas.Map.Views.{list_any-from_Contains}
use Rattle.indexmap.proofs.CallerLemmas.{Contains-list_any}
use Rattle.wh_tasks.specs.declared.task.Task.{Task}
use Rattle.wh_tasks.specs.declared.task.Phase.{Phase}
use Rattle.wh_tasks.specs.Tasks.{phase}
use Rattle.wh_tasks.specs.Changes.{is_phase, count_in}
use Rattle.wh_ledger.specs.Ledgers.{tasks_of, clients_of}
use Rattle.wh_ledger.specs.Laws.{first_task, AreClients, ClientsAreInOrder, PhasesAddUp}
use Rattle.wh_ledger.proofs.Clients.{other, any-filter}

-- what a filter leaves passes its test
passed : (p : List ℕ → Bool) (ks : List (List ℕ)) → All (λ k. p k ≡ true) (filter p ks)
passed p [] = All-nil (λ k. p k ≡ true)
passed p (k ∷ ks) = by (p k) refl (passed p ks)
  where
    by : (b : Bool) → p k ≡ b → All (λ k. p k ≡ true) (filter p ks) → All (λ k. p k ≡ true) (cond (p k) (k ∷ filter p ks) (filter p ks))
    by true h rest = rw h (All-cons (λ k. p k ≡ true) k (filter p ks) h rest)
    by false h rest = rw h rest

apart : (c k : List ℕ) → other c k ≡ true → bytes_eq k c ≡ false
apart c k h = nat_list_eq_equiv.symm k c ∙ by (bytes_eq c k) h
  where
    by : (b : Bool) → not b ≡ true → b ≡ false
    by true e = cc
    by false e = refl

first-here : (task : Task) (tasks : List Task) → first_task task.client (task ∷ tasks) ≡ 0
first-here task tasks = ap (λ b. cond (not b) (1 + first_task task.client tasks) 0) (nat_list_eq_equiv.refl task.client)

first-later : (client : List ℕ) (task : Task) (tasks : List Task) → other task.client client ≡ true → first_task client (task ∷ tasks) ≡ 1 + first_task client tasks
first-later client task tasks h = ap (λ b. cond (not b) (1 + first_task client tasks) 0) (apart task.client client h)

-- one task more, at the front
ordered-next : (task : Task) (tasks : List Task) → AreClients tasks (clients_of tasks) → AreClients (task ∷ tasks) (clients_of (task ∷ tasks))
ordered-next task tasks h = record {
  each = All-cons (λ t. Contains (clients_of (task ∷ tasks)) t.client) task tasks (0, omega arith, refl) (λ i d lt. found (get_or tasks i d) (h.each i d lt));
  known = All-cons (λ k. first_task k (task ∷ tasks) < suc (length tasks)) task.client rest (rw (first-here task tasks) (omega arith))
      (λ i d lt. rw (first-later (get_or rest i d) task tasks (others i d lt)) (let g = All-filter (other task.client) (λ k. first_task k tasks < length tasks) (clients_of tasks) h.known i d lt in omega arith));
  order = AllPairs-cons (λ a b. first_task a (task ∷ tasks) < first_task b (task ∷ tasks)) task.client rest
      (λ i d lt. rw (first-here task tasks, first-later (get_or rest i d) task tasks (others i d lt)) (omega arith))
      (λ i j d less lt.
      let before : i < length rest = omega arith in
      let g = AllPairs-filter (λ a b. first_task a tasks < first_task b tasks) (other task.client) (clients_of tasks) h.order i j d less lt in
      rw (first-later (get_or rest i d) task tasks (others i d before), first-later (get_or rest j d) task tasks (others j d lt)) (omega arith));
}
  where
    rest : List (List ℕ)
    rest = filter (other task.client) (clients_of tasks)

    others : All (λ k. other task.client k ≡ true) rest
    others = passed (other task.client) (clients_of tasks)

    found : (t : Task) → Contains (clients_of tasks) t.client → Contains (task.client ∷ rest) t.client
    found t there = by (bytes_eq task.client t.client) refl
      where
        by : (b : Bool) → bytes_eq task.client t.client ≡ b → Contains (task.client ∷ rest) t.client
        by true e = (0, omega arith, (bytes_decides task.client t.client).0 e)
        by false e =
            let kept : list_any (bytes_eq t.client) rest ≡ true = any-filter task.client t.client (clients_of tasks) e ∙ list_any-from_Contains nat_list_eq_equiv t.client (clients_of tasks) there in
            let place = Contains-list_any bytes_eq (λ x y h. (bytes_decides x y).0 h) rest t.client kept in
            (suc place.0, (let below = place.1 in omega arith), place.2)

pub in-order : ClientsAreInOrder
in-order [] = record { each = All-nil (λ t. Contains [] t.client); known = All-nil _; order = λ i j d less lt. absurd (omega arith) }
in-order (task ∷ tasks) = ordered-next task tasks (in-order tasks)

one-phase : (p : Phase) → cond (is_phase Phase.Open p) 1 0 + cond (is_phase Phase.Assigned p) 1 0 + cond (is_phase Phase.Carried p) 1 0 + cond (is_phase Phase.Done p) 1 0 ≡ 1
one-phase Phase.Open = refl
one-phase Phase.Assigned = refl
one-phase Phase.Carried = refl
one-phase Phase.Done = refl

all-phases : (tasks : List Task) → count_in Phase.Open tasks + count_in Phase.Assigned tasks + count_in Phase.Carried tasks + count_in Phase.Done tasks ≡ length tasks
all-phases [] = refl
all-phases (task ∷ tasks) =
    let a = sum_by-cons (λ t. cond (is_phase Phase.Open (phase t)) 1 0) task tasks in
    let b = sum_by-cons (λ t. cond (is_phase Phase.Assigned (phase t)) 1 0) task tasks in
    let c = sum_by-cons (λ t. cond (is_phase Phase.Carried (phase t)) 1 0) task tasks in
    let d = sum_by-cons (λ t. cond (is_phase Phase.Done (phase t)) 1 0) task tasks in
    let one = one-phase (phase task) in
    let rest = all-phases tasks in
    omega arith

pub add-up : PhasesAddUp
add-up tasks client = all-phases (tasks_of client tasks)
