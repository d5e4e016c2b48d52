-- Each front is read to its end, and nothing is read behind that.
use Rattle.std.proofs.Common.{◌≡◌, ℕ, ◌≤◌, ◌+◌, Bool, true, false, cond, List, [], ◌∷◌, ◌++◌, map, length, Option, Some, None, refl, sym, ap, ◌∙◌, subst, arith, append_assoc, length-append}
use Rattle.std.proofs.Math.Dec.{ltb as nat_lt}
use Rattle.std.proofs.lemmas.Bool.{lt-ltb, le-ltb}
use Rattle.std.proofs.lemmas.List.{append-nil}
use Rattle.std.specs.List.{AllByRecursion}
use Rattle.wh_log.proofs.Fronts.{all_append}
use Rattle.wh_front.specs.declared.rules.Rules.{Rules}
use Rattle.wh_front.specs.declared.front.Front.{Front}
use Rattle.wh_front.specs.declared.front.Seat.{Seat}
use Rattle.wh_front.specs.declared.front.Submission.{Submission}
use Rattle.wh_front.specs.declared.line.Line.{Line}
use Rattle.wh_front.specs.declared.line.Line.TheVariants as lines
use Rattle.wh_front.specs.declared.stage.Stage.{Stage}
use Rattle.wh_front.specs.declared.stage.Stage.TheVariants as stages
use Rattle.wh_front.specs.Ranges.{SeatFits, SubmissionFits, LineFits, are_told}
use Rattle.wh_front.specs.Fronts.{rules_lines, head_lines, seat_lines, task_lines, front_lines, Fits}
use Rattle.wh_front.specs.Drafts.{Draft, nothing, expects, is_done, behind_task, put, run}
use Rattle.wh_front.proofs.DraftLaws.{draft, rest_of, nested}

-- ---- one line more
pub run_step : (d : Draft) (line : Line) (rest : List Line) (r : Draft) → run d (line ∷ rest) ≡ Some r → (expects d.stage line ≡ true) × (run (put d line) rest ≡ Some r)
run_step d line rest r e = go (expects d.stage line) refl e
  where
    go : (v : Bool) → expects d.stage line ≡ v → cond v (run (put d line) rest) None ≡ Some r → (expects d.stage line ≡ true) × (run (put d line) rest ≡ Some r)
    go true is e = (is, e)
    go false is e = absurd cc

pub run_more : (d : Draft) (taken : List Line) (line : Line) (r : Draft) → run d taken ≡ Some r → expects r.stage line ≡ true → run d (taken ++ line ∷ []) ≡ Some (put r line)
run_more d [] line r e may =
    let same : d ≡ r = cc in
    let here : expects d.stage line ≡ true = subst (λ (x : Draft). expects x.stage line ≡ true) (sym same) may in
    rw here (ap (λ (x : Draft). Some (put x line)) same)
run_more d (first ∷ taken) line r e may =
    let s = run_step d first taken r e in
    rw s.0 (run_more (put d first) taken line r s.1 may)

no_more : (line : Line) → expects stages.Done line ≡ false
no_more lines.Title = refl
no_more (lines.Before before) = refl
no_more (lines.Rules rules) = refl
no_more (lines.State clock closed kind) = refl
no_more (lines.Entries counts) = refl
no_more (lines.Agents count) = refl
no_more (lines.Agent seat) = refl
no_more (lines.Tasks count) = refl
no_more (lines.Task submission) = refl
no_more lines.Begin = refl

pub done_stage : (stage : Stage) → is_done stage ≡ true → stage ≡ stages.Done
done_stage stages.Done e = refl
done_stage stages.Title e = absurd cc
done_stage stages.Before e = absurd cc
done_stage stages.Rules e = absurd cc
done_stage stages.State e = absurd cc
done_stage stages.Entries e = absurd cc
done_stage stages.Agents e = absurd cc
done_stage stages.Seats e = absurd cc
done_stage stages.Tasks e = absurd cc
done_stage stages.Submissions e = absurd cc
done_stage stages.Begin e = absurd cc

pub ended : (d : Draft) (line : Line) (rest : List Line) (r : Draft) → d.stage ≡ stages.Done → run d (line ∷ rest) ≡ Some r → ⊥
ended d line rest r done e =
    let may = ((run_step d line rest r e).0) in
    let wrong : true ≡ false = sym may ∙ ap (λ (s : Stage). expects s line) done ∙ no_more line in
    absurd cc

-- ---- a whole front
run_seats : (f : Front) (n m : ℕ) (seats : List Seat) (rest : List Line) → 1 ≤ length seats → length f.seats + length seats ≡ n
    → run (draft f n m stages.Seats) (map lines.Agent seats ++ rest) ≡ run (draft (record f { seats = f.seats ++ seats }) n m stages.Tasks) rest
run_seats f n m [] rest some count = absurd (omega arith)
run_seats f n m (seat ∷ []) rest some count =
    let longer : length (f.seats ++ seat ∷ []) ≡ length f.seats + 1 = simp length-append (omega arith) in
    let full : nat_lt (length (f.seats ++ seat ∷ [])) n ≡ false = le-ltb _ _ (omega arith) in
    rw full refl
run_seats f n m (seat ∷ next ∷ seats) rest some count =
    let longer : length (f.seats ++ seat ∷ []) ≡ length f.seats + 1 = simp length-append (omega arith) in
    let more : nat_lt (length (f.seats ++ seat ∷ [])) n ≡ true = lt-ltb _ _ (omega arith) in
    let first : run (draft f n m stages.Seats) (map lines.Agent (seat ∷ next ∷ seats) ++ rest) ≡ run (draft (record f { seats = f.seats ++ seat ∷ [] }) n m stages.Seats) (map lines.Agent (next ∷ seats) ++ rest) = rw more refl in
    first ∙ run_seats (record f { seats = f.seats ++ seat ∷ [] }) n m (next ∷ seats) rest (omega arith) (omega arith)
    ∙ ap (λ (ss : List Seat). run (draft (record f { seats = ss }) n m stages.Tasks) rest) (append_assoc f.seats (seat ∷ []) (next ∷ seats))

run_tasks : (f : Front) (n m : ℕ) (tasks : List Submission) (rest : List Line) → length f.tasks + length tasks ≡ m
    → run (draft f n m (behind_task (length f.tasks) m)) (map lines.Task tasks ++ rest) ≡ run (draft (record f { tasks = f.tasks ++ tasks }) n m stages.Begin) rest
run_tasks f n m [] rest count =
    let full : nat_lt (length f.tasks) m ≡ false = le-ltb _ _ (omega arith) in
    rw (full, append-nil f.tasks) refl
run_tasks f n m (task ∷ tasks) rest count =
    let longer : length (f.tasks ++ task ∷ []) ≡ length f.tasks + 1 = simp length-append (omega arith) in
    let more : nat_lt (length f.tasks) m ≡ true = lt-ltb _ _ (omega arith) in
    let first : run (draft f n m (behind_task (length f.tasks) m)) (map lines.Task (task ∷ tasks) ++ rest)
    ≡ run (draft (record f { tasks = f.tasks ++ task ∷ [] }) n m (behind_task (length (f.tasks ++ task ∷ [])) m)) (map lines.Task tasks ++ rest) = rw more refl in
    first ∙ run_tasks (record f { tasks = f.tasks ++ task ∷ [] }) n m tasks rest (omega arith)
    ∙ ap (λ (ts : List Submission). run (draft (record f { tasks = ts }) n m stages.Begin) rest) (append_assoc f.tasks (task ∷ []) tasks)

run_rest : (f : Front) → 1 ≤ length f.seats
    → run (draft (record f { seats = []; tasks = [] }) 1 0 stages.Agents) (rest_of f) ≡ Some (draft f (length f.seats) (length f.tasks) stages.Done)
run_rest f some =
    let start : Front = record f { seats = []; tasks = [] } in
    let seated : Front = record f { tasks = [] } in
    run_seats start (length f.seats) 0 f.seats (task_lines f.tasks ++ lines.Begin ∷ []) some (omega arith)
    ∙ run_tasks seated (length f.seats) (length f.tasks) f.tasks (lines.Begin ∷ []) (omega arith)

untold : (homes : Bool) (age : Option ℕ) → are_told homes age ≡ false → let usual : Rules = record { homes = false; age = None } in let r : Rules = record { homes = homes; age = age } in usual ≡ r
untold false None e = refl
untold false (Some age) e = absurd cc
untold true age e = absurd cc

pub run_front : (f : Front) → Fits f → run nothing (front_lines f) ≡ Some (draft f (length f.seats) (length f.tasks) stages.Done)
run_front f fits = ap (run nothing) (nested f) ∙ go (are_told f.rules.homes f.rules.age) refl
  where
    go : (v : Bool) → are_told f.rules.homes f.rules.age ≡ v
        → run nothing (lines.Title ∷ lines.Before f.before ∷ ((cond v (lines.Rules f.rules ∷ []) [] ++ lines.State f.clock f.closed f.kind ∷ lines.Entries f.counts ∷ []) ++ rest_of f))
        ≡ Some (draft f (length f.seats) (length f.tasks) stages.Done)
    go true is = run_rest f fits.agents.0
    go false is =
        let same = untold f.rules.homes f.rules.age is in
        ap (λ (r : Rules). run (draft (record f { rules = r; seats = []; tasks = [] }) 1 0 stages.Agents) (rest_of f)) same ∙ run_rest f fits.agents.0

-- ---- the lines of a front are in their ranges
pub front_fit : (f : Front) → Fits f → AllByRecursion LineFits (front_lines f)
front_fit f fits =
    subst (AllByRecursion LineFits) (sym (nested f)) (all_append LineFits (head_lines f) (rest_of f) (tt, (fits.before, all_append LineFits (rules_lines f.rules) _ (rules_fit (are_told f.rules.homes f.rules.age) refl) (fits.clock, (fits.counts, tt))))
    (all_append LineFits (seat_lines f.seats) (task_lines f.tasks ++ lines.Begin ∷ []) (fits.agents, seats_fit f.seats fits.seats)
    (all_append LineFits (task_lines f.tasks) (lines.Begin ∷ []) (fits.few, tasks_fit f.tasks fits.tasks) (tt, tt))))
  where
    rules_fit : (v : Bool) → are_told f.rules.homes f.rules.age ≡ v → AllByRecursion LineFits (cond v (lines.Rules f.rules ∷ []) [])
    rules_fit true is = ((fits.rules, is), tt)
    rules_fit false is = tt

    seats_fit : (seats : List Seat) → AllByRecursion SeatFits seats → AllByRecursion LineFits (map lines.Agent seats)
    seats_fit [] h = tt
    seats_fit (seat ∷ seats) h = (h.0, seats_fit seats h.1)

    tasks_fit : (tasks : List Submission) → AllByRecursion SubmissionFits tasks → AllByRecursion LineFits (map lines.Task tasks)
    tasks_fit [] h = tt
    tasks_fit (task ∷ tasks) h = (h.0, tasks_fit tasks h.1)
