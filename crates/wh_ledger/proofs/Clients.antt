-- the clients of a list of tasks and their rows, after one task more
use Rattle.std.proofs.Common.{◌≡◌, ℕ, zero, suc, ◌<◌, ◌≤◌, List, [], ◌∷◌, ◌++◌, Bool, true, false, not, ◌||◌, cond, if◌then◌else◌, length, filter, map, get_or, Some, slice_get, refl, sym, ap, subst, ◌∙◌, arith, true≢false}
use Rattle.std.proofs.Math.ListN.{set}
use Rattle.std.specs.Str.{bytes_eq}
use Rattle.std.specs.List.{list_any, AllByRecursion, IsDistinct}
use Rattle.std.specs.Cmp.Lexicographic.{bytes_decides}
use Rattle.std.proofs.lemmas.Cmp.{nat_list_eq_equiv}
use Rattle.std.proofs.lemmas.List.{append-nil, map-append, get_or-map, length-map}
use Rattle.std.proofs.lemmas.List.Elements.{filter-append}
use Rattle.std.proofs.lemmas.Option.{slice_get_within, get_or_from_slice_get}
use Rattle.std.proofs.lemmas.Map.Keys.{IsDistinct-head, IsDistinct-tail}
use Rattle.indexmap.specs.IndexSet.{insert_key}
use Rattle.wh_tasks.specs.declared.task.Task.{Task}
use Rattle.wh_ledger.specs.declared.row.Row.{Row}
use Rattle.wh_ledger.specs.Ledgers.{tasks_of, row_of, clients_of, rows_of}
use Rattle.wh_ledger.specs.Places.{IsWithin, HasPlace}
use Rattle.wh_ledger.proofs.Counting.{row_of-other}

abbrev pub other : List ℕ → List ℕ → Bool
other x k = not (bytes_eq x k)

-- what differs from t is not t
differs : (x t k : List ℕ) → bytes_eq x t ≡ false → bytes_eq x k ≡ true → bytes_eq t k ≡ false
differs x t k e h = nat_list_eq_equiv.symm t k ∙ (sym (nat_list_eq_equiv.congr x k t h) ∙ e)

-- without the names x, it is there as before
pub any-filter : (x t : List ℕ) (ks : List (List ℕ)) → bytes_eq x t ≡ false → list_any (bytes_eq t) (filter (other x) ks) ≡ list_any (bytes_eq t) ks
any-filter x t [] e = refl
any-filter x t (k ∷ ks) e = by (bytes_eq x k) refl (any-filter x t ks e)
  where
    by : (b : Bool) → bytes_eq x k ≡ b → list_any (bytes_eq t) (filter (other x) ks) ≡ list_any (bytes_eq t) ks →
        list_any (bytes_eq t) (cond (not (bytes_eq x k)) (k ∷ filter (other x) ks) (filter (other x) ks)) ≡ (bytes_eq t k || list_any (bytes_eq t) ks)
    by true h rest = rw (h, differs x t k e h) rest
    by false h rest = rw h (ap (λ b. bytes_eq t k || b) rest)

filter-one : (x t : List ℕ) (ks : List (List ℕ)) → filter (other x) (ks ++ t ∷ []) ≡ filter (other x) ks ++ cond (not (bytes_eq x t)) (t ∷ []) []
filter-one x t ks = filter-append (other x) ks (t ∷ [])

insert-first : (x t : List ℕ) (ks : List (List ℕ)) → x ∷ filter (other x) (insert_key bytes_eq ks t) ≡ insert_key bytes_eq (x ∷ filter (other x) ks) t
insert-first x t ks = by (bytes_eq x t) refl
  where
    gone : (b : Bool) → bytes_eq x t ≡ true → filter (other x) (if b then ks else ks ++ t ∷ []) ≡ filter (other x) ks
    gone true h = refl
    gone false h = filter-one x t ks ∙ ap (λ b. filter (other x) ks ++ cond (not b) (t ∷ []) []) h ∙ append-nil (filter (other x) ks)

    stays : (b : Bool) → bytes_eq x t ≡ false → x ∷ filter (other x) (if b then ks else ks ++ t ∷ []) ≡ (if b then x ∷ filter (other x) ks else (x ∷ filter (other x) ks) ++ t ∷ [])
    stays true h = refl
    stays false h = ap (λ r. x ∷ r) (filter-one x t ks ∙ ap (λ b. filter (other x) ks ++ cond (not b) (t ∷ []) []) h)

    by : (b : Bool) → bytes_eq x t ≡ b → x ∷ filter (other x) (insert_key bytes_eq ks t) ≡ insert_key bytes_eq (x ∷ filter (other x) ks) t
    by true h =
        let there : bytes_eq t x ≡ true = nat_list_eq_equiv.symm t x ∙ h in
        ap (λ r. x ∷ r) (gone (list_any (bytes_eq t) ks) h)
        ∙ sym (ap (λ b. if b || list_any (bytes_eq t) (filter (other x) ks) then x ∷ filter (other x) ks else (x ∷ filter (other x) ks) ++ t ∷ []) there)
    by false h =
        let not_first : bytes_eq t x ≡ false = nat_list_eq_equiv.symm t x ∙ h in
        stays (list_any (bytes_eq t) ks) h
        ∙ sym (ap (λ b. if b then x ∷ filter (other x) ks else (x ∷ filter (other x) ks) ++ t ∷ [])
        (ap (λ b. b || list_any (bytes_eq t) (filter (other x) ks)) not_first ∙ any-filter x t ks h))

pub clients_of-push : (tasks : List Task) (task : Task) → clients_of (tasks ++ task ∷ []) ≡ insert_key bytes_eq (clients_of tasks) task.client
clients_of-push [] task = refl
clients_of-push (first ∷ tasks) task =
    ap (λ ks. first.client ∷ filter (other first.client) ks) (clients_of-push tasks task) ∙ insert-first first.client task.client (clients_of tasks)

-- who is none of the clients submitted no task
pub tasks_of-none : (client : List ℕ) (tasks : List Task) → list_any (bytes_eq client) (clients_of tasks) ≡ false → tasks_of client tasks ≡ []
tasks_of-none client [] h = refl
tasks_of-none client (task ∷ tasks) h = by (bytes_eq client task.client) refl (tasks_of-none client tasks)
  where
    by : (b : Bool) → bytes_eq client task.client ≡ b → (list_any (bytes_eq client) (clients_of tasks) ≡ false → tasks_of client tasks ≡ []) → tasks_of client (task ∷ tasks) ≡ []
    by true e others = absurd (true≢false (sym (ap (λ b. b || list_any (bytes_eq client) (filter (other task.client) (clients_of tasks))) e) ∙ h))
    by false e others =
        let rest : list_any (bytes_eq client) (filter (other task.client) (clients_of tasks)) ≡ false =
        sym (ap (λ b. b || list_any (bytes_eq client) (filter (other task.client) (clients_of tasks))) e) ∙ h in
        let apart : bytes_eq task.client client ≡ false = nat_list_eq_equiv.symm task.client client ∙ e in
        ap (λ b. cond b (task ∷ tasks_of client tasks) (tasks_of client tasks)) e
        ∙ others (sym (any-filter task.client client (clients_of tasks) apart) ∙ rest)

-- the row of a new client
pub row_of-none : (client : List ℕ) (tasks : List Task) → list_any (bytes_eq client) (clients_of tasks) ≡ false → row_of tasks client ≡ row_of [] client
row_of-none client tasks h = rw (tasks_of-none client tasks h) refl

all-other : (f g : List ℕ → Row) (x : List ℕ) (ks : List (List ℕ)) → ((k : List ℕ) → bytes_eq x k ≡ false → f k ≡ g k) → AllByRecursion (λ k. bytes_eq x k ≡ false) ks → map f ks ≡ map g ks
all-other f g x [] same h = refl
all-other f g x (k ∷ ks) same h = λ i. same k h.0 i ∷ all-other f g x ks same h.1 i

one-other : (x : List ℕ) (ks : List (List ℕ)) (i : ℕ) → i < length ks → AllByRecursion (λ k. bytes_eq x k ≡ false) ks → bytes_eq x (get_or ks i []) ≡ false
one-other x [] i h all = absurd (omega arith)
one-other x (k ∷ ks) zero h all = all.0
one-other x (k ∷ ks) (suc i) h all = one-other x ks i (omega arith) all.1

-- of names that are apart, one gets another row
pub set-one : (f g : List ℕ → Row) (x : List ℕ) (ks : List (List ℕ)) (i : ℕ) → ((k : List ℕ) → bytes_eq x k ≡ false → f k ≡ g k) → IsDistinct bytes_eq ks → i < length ks → get_or ks i [] ≡ x →
    set (map f ks) i (g x) ≡ map g ks
set-one f g x [] i same apart h at = absurd (omega arith)
set-one f g x (k ∷ ks) zero same apart h at = λ j. g (sym at j) ∷ all-other f g x ks same (subst (λ y. AllByRecursion (λ k. bytes_eq y k ≡ false) ks) at (IsDistinct-head bytes_eq k ks apart)) j
set-one f g x (k ∷ ks) (suc i) same apart h at =
    let here : i < length ks = omega arith in
    let e : bytes_eq x k ≡ false = nat_list_eq_equiv.symm x k ∙ (ap (bytes_eq k) (sym at) ∙ one-other k ks i here (IsDistinct-head bytes_eq k ks apart)) in
    λ j. same k e j ∷ set-one f g x ks i same (IsDistinct-tail bytes_eq k ks apart) here at j

-- the row at the place is the client's, and it is there
pub placed-below : {tasks : List Task} {client : List ℕ} {keys : List (List ℕ)} {rows : List Row} {place : ℕ} → HasPlace tasks client keys rows place → place < length rows
placed-below h = rw (h.rows_are, length-map) h.below

pub placed-row : {tasks : List Task} {client : List ℕ} {keys : List (List ℕ)} {rows : List Row} {place : ℕ} → HasPlace tasks client keys rows place → (row : Row) → row ≡ get_or rows place row → row ≡ row_of tasks client
placed-row {tasks} {client} {keys} {rows} {place} h row is =
    is ∙ ap (λ rs. get_or rs place row) h.rows_are ∙ get_or-map (row_of tasks) keys place [] row h.below ∙ ap (row_of tasks) h.at

pub more-within : (n m : ℕ) (row : Row) → n ≤ m → IsWithin n row → IsWithin m row
more-within n m row le h = record {
  submitted = let g = h.submitted in omega arith;
  open_tasks = let g = h.open_tasks in omega arith;
  assigned = let g = h.assigned in omega arith;
  carried = let g = h.carried in omega arith;
  done = let g = h.done in omega arith;
  time = let g = h.time in omega arith;
}

-- with the task counted, the rows are those of one task more
pub rows-counted : {tasks : List Task} {keys : List (List ℕ)} {rows : List Row} {place : ℕ} (task : Task) → HasPlace tasks task.client keys rows place →
    (row : Row) → row ≡ row_of (tasks ++ task ∷ []) task.client → set rows place row ≡ rows_of (tasks ++ task ∷ [])
rows-counted {tasks} {keys} {rows} {place} task h row is =
    let same : (k : List ℕ) → bytes_eq task.client k ≡ false → row_of tasks k ≡ row_of (tasks ++ task ∷ []) k =
    λ k e. sym (row_of-other k tasks task (nat_list_eq_equiv.symm k task.client ∙ e)) in
    let all : keys ≡ clients_of (tasks ++ task ∷ []) = h.keys_are ∙ sym (clients_of-push tasks task) in
    ap (λ rs. set rs place row) h.rows_are ∙ ap (set (map (row_of tasks) keys) place) is
    ∙ set-one (row_of tasks) (row_of (tasks ++ task ∷ [])) task.client keys place same h.apart h.below h.at
    ∙ ap (map (row_of (tasks ++ task ∷ []))) all

-- a new client comes last, with an empty row
pub rows-new : (tasks : List Task) (client : List ℕ) → list_any (bytes_eq client) (clients_of tasks) ≡ false → rows_of tasks ++ row_of [] client ∷ [] ≡ map (row_of tasks) (insert_key bytes_eq (clients_of tasks) client)
rows-new tasks client new =
    ap (λ r. rows_of tasks ++ r ∷ []) (sym (row_of-none client tasks new))
    ∙ sym (ap (λ b. map (row_of tasks) (if b then clients_of tasks else clients_of tasks ++ client ∷ [])) new ∙ map-append (row_of tasks) (clients_of tasks) (client ∷ []))

pub rows-known : (tasks : List Task) (client : List ℕ) → list_any (bytes_eq client) (clients_of tasks) ≡ true → rows_of tasks ≡ map (row_of tasks) (insert_key bytes_eq (clients_of tasks) client)
rows-known tasks client known = sym (ap (λ b. map (row_of tasks) (if b then clients_of tasks else clients_of tasks ++ client ∷ [])) known)

pub none-within : (n : ℕ) (client : List ℕ) → IsWithin n (row_of [] client)
none-within n client = record { submitted = omega arith; open_tasks = omega arith; assigned = omega arith; carried = omega arith; done = omega arith; time = omega arith }

not-false : (b : Bool) → true ≡ not b → b ≡ false
not-false true e = cc
not-false false e = cc

not-true : (b : Bool) → false ≡ not b → b ≡ true
not-true true e = cc
not-true false e = cc

-- the place that a set of names tells of one
pub place-found : (tasks : List Task) (client : List ℕ) (keys : List (List ℕ)) (rows : List Row) (place : ℕ) → keys ≡ insert_key bytes_eq (clients_of tasks) client → IsDistinct bytes_eq keys →
    ((k : List ℕ) × (slice_get keys place ≡ Some k) × (bytes_eq client k ≡ true)) → rows ≡ map (row_of tasks) (insert_key bytes_eq (clients_of tasks) client) → HasPlace tasks client keys rows place
place-found tasks client keys rows place keys_are apart stored rows_are = record {
  keys_are = keys_are;
  rows_are = rows_are ∙ ap (map (row_of tasks)) (sym keys_are);
  apart = apart;
  below = slice_get_within keys place stored.0 stored.1;
  at = get_or_from_slice_get keys place stored.0 [] stored.1 ∙ sym ((bytes_decides client stored.0).0 stored.2);
}

-- a new client's row, which comes last
pub rows-added : (tasks : List Task) (client : List ℕ) (old : List (List ℕ)) (rows : List Row) (is_new : Bool) → is_new ≡ true → is_new ≡ not (list_any (bytes_eq client) old) → old ≡ clients_of tasks → rows ≡ rows_of tasks →
    rows ++ row_of [] client ∷ [] ≡ map (row_of tasks) (insert_key bytes_eq (clients_of tasks) client)
rows-added tasks client old rows is_new test told keys_were rows_were =
    let new : list_any (bytes_eq client) (clients_of tasks) ≡ false = rw (← keys_were) (not-false _ (sym test ∙ told)) in
    ap (λ rs. rs ++ row_of [] client ∷ []) rows_were ∙ rows-new tasks client new

-- the rows stay where the client has one
pub rows-stay : (tasks : List Task) (client : List ℕ) (old : List (List ℕ)) (rows : List Row) (is_new : Bool) → is_new ≡ false → is_new ≡ not (list_any (bytes_eq client) old) → old ≡ clients_of tasks → rows ≡ rows_of tasks →
    rows ≡ map (row_of tasks) (insert_key bytes_eq (clients_of tasks) client)
rows-stay tasks client old rows is_new test told keys_were rows_were =
    let known : list_any (bytes_eq client) (clients_of tasks) ≡ true = rw (← keys_were) (not-true _ (sym test ∙ told)) in
    rows_were ∙ rows-known tasks client known
