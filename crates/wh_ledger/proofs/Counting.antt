-- a client's row, after one task more
use Rattle.std.proofs.Common.{◌≡◌, ℕ, ◌+◌, List, [], ◌∷◌, ◌++◌, Bool, true, false, cond, length, refl, ap, ◌∙◌, arith, length-append}
use Rattle.std.specs.List.{sum_by}
use Rattle.std.specs.Str.{bytes_eq}
use Rattle.std.proofs.lemmas.List.{append-nil}
use Rattle.std.proofs.lemmas.Cmp.{nat_list_eq_equiv}
use Rattle.std.proofs.lemmas.List.Elements.{filter-append}
use Rattle.std.proofs.lemmas.List.Sums.{sum_by_push, sum_by-append}
use Rattle.wh_tasks.specs.declared.task.Task.{Task}
use Rattle.wh_tasks.specs.declared.task.Phase.{Phase}
use Rattle.wh_tasks.specs.Tasks.{phase}
use Rattle.wh_tasks.specs.Changes.{is_phase, count_in}
use Rattle.wh_ledger.specs.declared.row.Row.{Row}
use Rattle.wh_ledger.specs.Ledgers.{tasks_of, done_of, time_of, row_of}

pub tasks_of-own : (client : List ℕ) (tasks : List Task) (task : Task) → bytes_eq client task.client ≡ true → tasks_of client (tasks ++ task ∷ []) ≡ tasks_of client tasks ++ task ∷ []
tasks_of-own client tasks task own = filter-append (λ t. bytes_eq client t.client) tasks (task ∷ []) ∙ ap (λ b. tasks_of client tasks ++ cond b (task ∷ []) []) own

pub tasks_of-other : (client : List ℕ) (tasks : List Task) (task : Task) → bytes_eq client task.client ≡ false → tasks_of client (tasks ++ task ∷ []) ≡ tasks_of client tasks
tasks_of-other client tasks task other =
    filter-append (λ t. bytes_eq client t.client) tasks (task ∷ []) ∙ ap (λ b. tasks_of client tasks ++ cond b (task ∷ []) []) other ∙ append-nil (tasks_of client tasks)

-- another client's task changes nothing of the row
pub row_of-other : (client : List ℕ) (tasks : List Task) (task : Task) → bytes_eq client task.client ≡ false → row_of (tasks ++ task ∷ []) client ≡ row_of tasks client
row_of-other client tasks task other = rw (tasks_of-other client tasks task other) refl

-- how a task changes the row of its client
abbrev pub counted : Phase → Task → Row → Row
counted Phase.Open task row = record { client = row.client; submitted = row.submitted + 1; open_tasks = row.open_tasks + 1; assigned = row.assigned; carried = row.carried; done = row.done; time = row.time }
counted Phase.Assigned task row = record { client = row.client; submitted = row.submitted + 1; open_tasks = row.open_tasks; assigned = row.assigned + 1; carried = row.carried; done = row.done; time = row.time }
counted Phase.Carried task row = record { client = row.client; submitted = row.submitted + 1; open_tasks = row.open_tasks; assigned = row.assigned; carried = row.carried + 1; done = row.done; time = row.time }
counted Phase.Done task row = record { client = row.client; submitted = row.submitted + 1; open_tasks = row.open_tasks; assigned = row.assigned; carried = row.carried; done = row.done + 1; time = row.time + time_of task }

same_row : (client : List ℕ) (a b c d e f g h i j k l : ℕ) → a ≡ g → b ≡ h → c ≡ i → d ≡ j → e ≡ k → f ≡ l →
    let left : Row = record { client = client; submitted = a; open_tasks = b; assigned = c; carried = d; done = e; time = f } in
    let right : Row = record { client = client; submitted = g; open_tasks = h; assigned = i; carried = j; done = k; time = l } in
    left ≡ right
same_row client a b c d e f g h i j k l p q r s t u = rw (p, q, r, s, t, u) refl

-- of a list of tasks, one more
one_more : (p stage : Phase) (tasks : List Task) (task : Task) → phase task ≡ stage → count_in p (tasks ++ task ∷ []) ≡ count_in p tasks + cond (is_phase p stage) 1 0
one_more p stage tasks task is = rw (← is) (sum_by_push (λ t. cond (is_phase p (phase t)) 1 0) tasks task)

time_more : (stage : Phase) (tasks : List Task) (task : Task) → phase task ≡ stage → sum_by time_of (done_of (tasks ++ task ∷ [])) ≡ sum_by time_of (done_of tasks) + cond (is_phase Phase.Done stage) (time_of task) 0
time_more stage tasks task is =
    ap (sum_by time_of) (filter-append (λ t. is_phase Phase.Done (phase t)) tasks (task ∷ []))
    ∙ sum_by-append time_of (done_of tasks) (done_of (task ∷ []))
    ∙ ap (λ n. sum_by time_of (done_of tasks) + n) (by (is_phase Phase.Done (phase task)) ∙ ap (λ p. cond (is_phase Phase.Done p) (time_of task) 0) is)
  where
    by : (b : Bool) → sum_by time_of (cond b (task ∷ []) []) ≡ cond b (time_of task) 0
    by true = omega arith
    by false = refl

pub row_of-own : (stage : Phase) (client : List ℕ) (tasks : List Task) (task : Task) → bytes_eq client task.client ≡ true → phase task ≡ stage → counted stage task (row_of tasks client) ≡ row_of (tasks ++ task ∷ []) client
row_of-own stage client tasks task own is = rw (tasks_of-own client tasks task own) (by stage is)
  where
    all : List Task
    all = tasks_of client tasks

    by : (stage : Phase) → phase task ≡ stage → counted stage task (row_of tasks client) ≡ record {
      client = client;
      submitted = length (all ++ task ∷ []);
      open_tasks = count_in Phase.Open (all ++ task ∷ []);
      assigned = count_in Phase.Assigned (all ++ task ∷ []);
      carried = count_in Phase.Carried (all ++ task ∷ []);
      done = count_in Phase.Done (all ++ task ∷ []);
      time = sum_by time_of (done_of (all ++ task ∷ []));
    }
    by Phase.Open is = let e = one_more Phase.Open Phase.Open all task is in let f = one_more Phase.Assigned Phase.Open all task is in let g = one_more Phase.Carried Phase.Open all task is in let h = one_more Phase.Done Phase.Open all task is in let i = time_more Phase.Open all task is in
        same_row client _ _ _ _ _ _ _ _ _ _ _ _ (simp length-append) (omega arith) (omega arith) (omega arith) (omega arith) (omega arith)
    by Phase.Assigned is = let e = one_more Phase.Open Phase.Assigned all task is in let f = one_more Phase.Assigned Phase.Assigned all task is in let g = one_more Phase.Carried Phase.Assigned all task is in let h = one_more Phase.Done Phase.Assigned all task is in let i = time_more Phase.Assigned all task is in
        same_row client _ _ _ _ _ _ _ _ _ _ _ _ (simp length-append) (omega arith) (omega arith) (omega arith) (omega arith) (omega arith)
    by Phase.Carried is = let e = one_more Phase.Open Phase.Carried all task is in let f = one_more Phase.Assigned Phase.Carried all task is in let g = one_more Phase.Carried Phase.Carried all task is in let h = one_more Phase.Done Phase.Carried all task is in let i = time_more Phase.Carried all task is in
        same_row client _ _ _ _ _ _ _ _ _ _ _ _ (simp length-append) (omega arith) (omega arith) (omega arith) (omega arith) (omega arith)
    by Phase.Done is = let e = one_more Phase.Open Phase.Done all task is in let f = one_more Phase.Assigned Phase.Done all task is in let g = one_more Phase.Carried Phase.Done all task is in let h = one_more Phase.Done Phase.Done all task is in let i = time_more Phase.Done all task is in
        same_row client _ _ _ _ _ _ _ _ _ _ _ _ (simp length-append) (omega arith) (omega arith) (omega arith) (omega arith) (omega arith)

-- the row of the task's client, as the code has it
pub row-counted : (stage : Phase) (row : Row) (tasks : List Task) (task : Task) → row.client ≡ task.client → phase task ≡ stage → row ≡ row_of tasks row.client → counted stage task row ≡ row_of (tasks ++ task ∷ []) row.client
row-counted stage row tasks task own is row_is =
    let named : bytes_eq row.client task.client ≡ true = rw own (nat_list_eq_equiv.refl task.client) in
    ap (counted stage task) row_is ∙ row_of-own stage row.client tasks task named is
