-- Some front goes on from each draft: agents that stand at a corner come to those that were read, and tasks that are open.
use Rattle.std.proofs.Common.{◌≡◌, ℕ, zero, suc, ◌≤◌, ◌-◌, Bool, cond, List, [], ◌∷◌, ◌++◌, map, length, replicate, None, codes, refl, sym, ap, ◌∙◌, subst, arith, append_assoc, length-append}
use Rattle.std.proofs.lemmas.List.{append-nil, map-append, length-replicate}
use Rattle.std.specs.List.{AllByRecursion}
use Rattle.wh_grid.specs.declared.cell.Cell.{Cell}
use Rattle.wh_log.proofs.Fronts.{all_append}
use Rattle.wh_front.specs.declared.front.Front.{Front}
use Rattle.wh_front.specs.declared.front.Seat.{Seat}
use Rattle.wh_front.specs.declared.front.Submission.{Submission}
use Rattle.wh_front.specs.declared.line.Line.{Line}
use Rattle.wh_front.specs.declared.line.Line.TheVariants as lines
use Rattle.wh_front.specs.declared.stage.Stage.{Stage}
use Rattle.wh_front.specs.declared.stage.Stage.TheVariants as stages
use Rattle.wh_front.specs.Ranges.{SeatFits, SubmissionFits, IsAgents, IsTasks}
use Rattle.wh_front.specs.Fronts.{rules_lines, head_lines, seat_lines, task_lines, front_lines, Fits}
use Rattle.wh_front.specs.Drafts.{Draft}
use Rattle.wh_front.proofs.DraftLaws.{IsDraft, draft, lines_read, tasks_read, rest_of, nested}

abbrev corner : Cell
corner = record { x = 0; y = 0 }

abbrev some_seat : Seat
some_seat = record { slots = 0; path = corner ∷ [] }

abbrev some_task : Submission
some_task = record { caller = 0; task = record { client = codes "x"; stops = corner ∷ corner ∷ []; submitted = 0; agent = None; visits = [] } }

seat_fits : SeatFits some_seat
seat_fits = record { slots = omega arith; some = omega arith; cells = ((omega arith, omega arith), tt) }

task_fits : SubmissionFits some_task
task_fits = (
  omega arith,
  record {
    client = refl;
    submitted = omega arith;
    who = refl;
    clocks = tt;
    few = omega arith;
    two = omega arith;
    eight = omega arith;
    cells = ((omega arith, omega arith), ((omega arith, omega arith), tt));
  },
)

abbrev more_seats : Front → ℕ → List Seat
more_seats f n = replicate (n - length f.seats) some_seat

abbrev more_tasks : Front → ℕ → List Submission
more_tasks f m = replicate (m - length f.tasks) some_task

abbrev completed : Front → ℕ → ℕ → Front
completed f n m = record f { seats = f.seats ++ more_seats f n; tasks = f.tasks ++ more_tasks f m }

all_same : {X : Type 0} (P : X → Type 0) (n : ℕ) (x : X) → P x → AllByRecursion P (replicate n x)
all_same P zero x p = tt
all_same P (suc n) x p = (p, all_same P n x p)

padded : {X : Type 0} (xs : List X) (n : ℕ) (x : X) → length xs ≤ n → length (xs ++ replicate (n - length xs) x) ≡ n
padded xs n x few = let k : length (replicate (n - length xs) x) ≡ n - length xs = length-replicate (n - length xs) x in simp length-append (omega (arith, k, few))

unpadded : {X : Type 0} (xs : List X) (n : ℕ) (x : X) → length xs ≡ n → xs ++ replicate (n - length xs) x ≡ xs
unpadded xs n x same = let none : n - length xs ≡ 0 = omega (arith, same) in rw none (append-nil xs)

record Counted (f : Front) (n m : ℕ) : Type 0 where
  seats : length f.seats ≤ n
  tasks : length f.tasks ≤ m

counted : (f : Front) (n m : ℕ) (stage : Stage) (taken : List Line) → IsDraft (draft f n m stage) taken → Counted f n m
counted f n m stage taken d = go stage taken d
  where
    fresh : f.seats ≡ [] → f.tasks ≡ [] → Counted f n m
    fresh s t = record { seats = (let none : length f.seats ≡ 0 = ap (λ (ss : List Seat). length ss) s in omega (arith, none)); tasks = (let none : length f.tasks ≡ 0 = ap (λ (ts : List Submission). length ts) t in omega (arith, none)) }

    seated : length f.seats ≤ n → f.tasks ≡ [] → Counted f n m
    seated s t = record { seats = s; tasks = (let none : length f.tasks ≡ 0 = ap (λ (ts : List Submission). length ts) t in omega (arith, none)) }

    go : (stage : Stage) (taken : List Line) → IsDraft (draft f n m stage) taken → Counted f n m
    go stages.Title taken d = fresh d.stands.1.seats d.stands.1.tasks
    go stages.Before taken d = fresh d.stands.1.seats d.stands.1.tasks
    go stages.Rules taken d = fresh d.stands.1.seats d.stands.1.tasks
    go stages.State taken d = fresh d.stands.1.seats d.stands.1.tasks
    go stages.Entries taken d = fresh d.stands.seats d.stands.tasks
    go stages.Agents taken d = fresh d.stands.seats d.stands.tasks
    go stages.Seats taken d = seated (omega (arith, d.stands.0)) d.stands.1
    go stages.Tasks taken d = seated (omega (arith, d.stands.0)) d.stands.1
    go stages.Submissions taken d = record { seats = omega (arith, d.stands.0); tasks = omega (arith, d.stands.1) }
    go stages.Begin taken d = record { seats = omega (arith, d.stands.0); tasks = omega (arith, d.stands.1) }
    go stages.Done taken d = record { seats = omega (arith, d.stands.0); tasks = omega (arith, d.stands.1) }

completed_fits : (f : Front) (n m : ℕ) (stage : Stage) (taken : List Line) → IsDraft (draft f n m stage) taken → Fits (completed f n m)
completed_fits f n m stage taken d =
    let c = counted f n m stage taken d in
    record {
      before = d.fit.before;
      rules = d.fit.rules;
      clock = d.fit.clock;
      counts = d.fit.counts;
      agents = subst IsAgents (sym (padded f.seats n some_seat c.seats)) d.fit.agents;
      seats = all_append SeatFits f.seats (more_seats f n) d.fit.seats (all_same SeatFits (n - length f.seats) some_seat seat_fits);
      few = subst IsTasks (sym (padded f.tasks m some_task c.tasks)) d.fit.few;
      tasks = all_append SubmissionFits f.tasks (more_tasks f m) d.fit.tasks (all_same SubmissionFits (m - length f.tasks) some_task task_fits);
    }

-- these lines stand at the front of those
abbrev Leads : List Line → List Line → Type 0
Leads front all = (more : List Line) × (all ≡ front ++ more)

-- the lines of a front
abbrev flat : Front → List Line
flat f = head_lines f ++ rest_of f

seats_lead : (f g : Front) (n : ℕ) (more : List Seat) → head_lines g ≡ head_lines f → g.seats ≡ f.seats ++ more → length g.seats ≡ n → Leads (head_lines f ++ lines.Agents n ∷ map lines.Agent f.seats) (flat g)
seats_lead f g n more head seats count =
    let tail = task_lines g.tasks ++ lines.Begin ∷ [] in
    let split : map (λ (s : Seat). lines.Agent s) (f.seats ++ more) ≡ map (λ (s : Seat). lines.Agent s) f.seats ++ map (λ (s : Seat). lines.Agent s) more = map-append (λ (s : Seat). lines.Agent s) f.seats more in
    let whole : flat g ≡ head_lines f ++ lines.Agents n ∷ (map lines.Agent (f.seats ++ more) ++ tail) =
    ap (λ (h : List Line). h ++ (seat_lines g.seats ++ tail)) head ∙ ap (λ (k : ℕ). head_lines f ++ lines.Agents k ∷ (map lines.Agent g.seats ++ tail)) count
    ∙ ap (λ (ss : List Seat). head_lines f ++ lines.Agents n ∷ (map lines.Agent ss ++ tail)) seats in (
      map lines.Agent more ++ tail,
      whole ∙ ap (λ (ls : List Line). head_lines f ++ lines.Agents n ∷ (ls ++ tail)) split
          ∙ ap (λ (ls : List Line). head_lines f ++ lines.Agents n ∷ ls) (append_assoc (map lines.Agent f.seats) (map lines.Agent more) tail)
          ∙ sym (append_assoc (head_lines f) (lines.Agents n ∷ map lines.Agent f.seats) (map lines.Agent more ++ tail)),
    )

tasks_lead : (f g : Front) (n m : ℕ) (more : List Submission) → head_lines g ≡ head_lines f → g.seats ≡ f.seats → length f.seats ≡ n → g.tasks ≡ f.tasks ++ more → length g.tasks ≡ m
    → (tail : List Line) × (flat g ≡ ((head_lines f ++ lines.Agents n ∷ map lines.Agent f.seats) ++ lines.Tasks m ∷ map lines.Task f.tasks) ++ (map lines.Task more ++ tail)) × (tail ≡ lines.Begin ∷ [])
tasks_lead f g n m more head seats agents tasks count =
    let tail : List Line = lines.Begin ∷ [] in
    let split : map (λ (s : Submission). lines.Task s) (f.tasks ++ more) ≡ map (λ (s : Submission). lines.Task s) f.tasks ++ map (λ (s : Submission). lines.Task s) more = map-append (λ (s : Submission). lines.Task s) f.tasks more in
    let front = head_lines f ++ lines.Agents n ∷ map lines.Agent f.seats in
    let first : flat g ≡ front ++ (task_lines g.tasks ++ tail) =
    ap (λ (h : List Line). h ++ (seat_lines g.seats ++ (task_lines g.tasks ++ tail))) head ∙ ap (λ (ss : List Seat). head_lines f ++ (seat_lines ss ++ (task_lines g.tasks ++ tail))) seats
    ∙ ap (λ (k : ℕ). head_lines f ++ ((lines.Agents k ∷ map lines.Agent f.seats) ++ (task_lines g.tasks ++ tail))) agents
    ∙ sym (append_assoc (head_lines f) (lines.Agents n ∷ map lines.Agent f.seats) (task_lines g.tasks ++ tail)) in
    let whole : flat g ≡ front ++ (lines.Tasks m ∷ (map lines.Task (f.tasks ++ more) ++ tail)) =
    first ∙ ap (λ (k : ℕ). front ++ (lines.Tasks k ∷ (map lines.Task g.tasks ++ tail))) count ∙ ap (λ (ts : List Submission). front ++ (lines.Tasks m ∷ (map lines.Task ts ++ tail))) tasks in (
      tail,
      whole ∙ ap (λ (ls : List Line). front ++ (lines.Tasks m ∷ (ls ++ tail))) split
          ∙ ap (λ (ls : List Line). front ++ (lines.Tasks m ∷ ls)) (append_assoc (map lines.Task f.tasks) (map lines.Task more) tail)
          ∙ sym (append_assoc front (lines.Tasks m ∷ map lines.Task f.tasks) (map lines.Task more ++ tail)),
      refl,
    )

reads_lead : (f : Front) (n m : ℕ) (stage : Stage) (taken : List Line) → IsDraft (draft f n m stage) taken → Leads (lines_read stage (draft f n m stage)) (flat (completed f n m))
reads_lead f n m stage taken d = go stage taken d
  where
    g : Front
    g = completed f n m

    go : (stage : Stage) (taken : List Line) → IsDraft (draft f n m stage) taken → Leads (lines_read stage (draft f n m stage)) (flat (completed f n m))
    go stages.Title taken d = (flat (completed f n m), refl)
    go stages.Before taken d = (lines.Before f.before ∷ ((rules_lines f.rules ++ lines.State f.clock f.closed f.kind ∷ lines.Entries f.counts ∷ []) ++ rest_of (completed f n m)), refl)
    go stages.Rules taken d = ((rules_lines f.rules ++ lines.State f.clock f.closed f.kind ∷ lines.Entries f.counts ∷ []) ++ rest_of (completed f n m), refl)
    go stages.State taken d = (
      lines.State f.clock f.closed f.kind ∷ lines.Entries f.counts ∷ rest_of (completed f n m),
      ap (λ (v : Bool). lines.Title ∷ lines.Before f.before ∷ ((cond v (lines.Rules f.rules ∷ []) [] ++ lines.State f.clock f.closed f.kind ∷ lines.Entries f.counts ∷ []) ++ rest_of (completed f n m))) d.stands.0,
    )
    go stages.Entries taken d = (
      lines.Entries f.counts ∷ rest_of (completed f n m),
      ap (λ (ls : List Line). lines.Title ∷ lines.Before f.before ∷ ls)
          (append_assoc (rules_lines f.rules) (lines.State f.clock f.closed f.kind ∷ lines.Entries f.counts ∷ []) (rest_of (completed f n m))
          ∙ sym (append_assoc (rules_lines f.rules) (lines.State f.clock f.closed f.kind ∷ []) (lines.Entries f.counts ∷ rest_of (completed f n m)))),
    )
    go stages.Agents taken d = (rest_of (completed f n m), refl)
    go stages.Seats taken d = seats_lead f (completed f n m) n (more_seats f n) refl refl (padded f.seats n some_seat (omega (arith, d.stands.0)))
    go stages.Tasks taken d = seats_lead f (completed f n m) n (more_seats f n) refl refl (padded f.seats n some_seat (omega (arith, d.stands.0)))
    go stages.Submissions taken d =
        let t = tasks_lead f (completed f n m) n m (more_tasks f m) refl (unpadded f.seats n some_seat d.stands.0) d.stands.0 refl (padded f.tasks m some_task (omega (arith, d.stands.1))) in
        (map lines.Task (more_tasks f m) ++ t.0, t.1)
    go stages.Begin taken d =
        let t = tasks_lead f (completed f n m) n m (more_tasks f m) refl (unpadded f.seats n some_seat d.stands.0) d.stands.0 refl (padded f.tasks m some_task (omega (arith, d.stands.1))) in
        (map lines.Task (more_tasks f m) ++ t.0, t.1)
    go stages.Done taken d =
        let t = tasks_lead f (completed f n m) n m [] refl (unpadded f.seats n some_seat d.stands.0) d.stands.0 (unpadded f.tasks m some_task d.stands.1 ∙ sym (append-nil f.tasks)) (padded f.tasks m some_task (omega (arith, d.stands.1))) in
        ([], t.1 ∙ ap (λ (ls : List Line). (tasks_read (draft f n m stages.Done)) ++ ls) t.2 ∙ sym (append-nil _))

-- some front has these lines first
pub record Continued (taken : List Line) : Type 0 where
  pub front : Front
  pub fits : Fits front
  pub more : List Line
  pub lines_are : front_lines front ≡ taken ++ more

pub draft_continued : (d : Draft) (taken : List Line) → IsDraft d taken → Continued taken
draft_continued d taken h =
    let l = reads_lead d.front d.agents d.tasks d.stage taken h in
    record {
      front = completed d.front d.agents d.tasks;
      fits = completed_fits d.front d.agents d.tasks d.stage taken h;
      more = l.0;
      lines_are = nested (completed d.front d.agents d.tasks) ∙ l.1 ∙ ap (λ (ls : List Line). ls ++ l.0) (sym h.is);
    }
