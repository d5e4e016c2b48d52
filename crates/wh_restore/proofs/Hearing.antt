-- What lines tell is what the draft tells that they make.
use Rattle.std.proofs.Common.{◌≡◌, ℕ, true, List, [], ◌∷◌, ◌++◌, map, refl, ap, ◌∙◌}
use Rattle.std.proofs.lemmas.List.{map-append}
use Rattle.wh_grid.specs.declared.cell.Cell.{Cell}
use Rattle.wh_tasks.specs.declared.task.Task.{Task}
use Rattle.wh_front.specs.declared.front.Front.{Front}
use Rattle.wh_front.specs.declared.front.Seat.{Seat}
use Rattle.wh_front.specs.declared.front.Submission.{Submission}
use Rattle.wh_front.specs.declared.line.Line.{Line}
use Rattle.wh_front.specs.declared.line.Line.TheVariants as lines
use Rattle.wh_front.specs.declared.stage.Stage.{Stage}
use Rattle.wh_front.specs.declared.stage.Stage.TheVariants as stages
use Rattle.wh_front.specs.Drafts.{Draft, expects, put}
use Rattle.wh_front.proofs.DraftLaws.{draft, StandsAt}
use Rattle.wh_stand.specs.Parts.{Parts, begun}
use Rattle.wh_restore.specs.SoundFronts.{parts_told}
use Rattle.wh_restore.specs.Flaws.{Heard, hear, hear_all}
use Rattle.wh_restore.specs.Restoring.{head_of, with_head, with_caller}

-- what a front tells so far
abbrev pub heard_of : Front → Heard
heard_of f = record { rules = f.rules; parts = parts_told f }

abbrev pub path_in : Seat → List Cell
path_in seat = seat.path

abbrev pub slots_in : Seat → ℕ
slots_in seat = seat.slots

abbrev pub task_in : Submission → Task
task_in submission = submission.task

abbrev pub caller_in : Submission → ℕ
caller_in submission = submission.caller

parts_bare : (f : Front) → f.seats ≡ [] → f.tasks ≡ [] → parts_told f ≡ begun f.clock f.closed
parts_bare f s t =
    ap (λ (ss : List Seat). parts_told (record f { seats = ss })) s ∙ ap (λ (ts : List Submission). parts_told (record f { seats = []; tasks = ts })) t

heard_seat : (f : Front) (seat : Seat) → heard_of (record f { seats = f.seats ++ seat ∷ [] }) ≡ hear (heard_of f) (lines.Agent seat)
heard_seat f seat =
    let paths : map path_in (f.seats ++ seat ∷ []) ≡ map path_in f.seats ++ seat.path ∷ [] = map-append path_in f.seats (seat ∷ []) in
    let slots : map slots_in (f.seats ++ seat ∷ []) ≡ map slots_in f.seats ++ seat.slots ∷ [] = map-append slots_in f.seats (seat ∷ []) in
    ap (λ (ps : List (List Cell)). record { rules = f.rules; parts = record { clock = f.clock; closed = f.closed; paths = ps; slots = map slots_in (f.seats ++ seat ∷ []); tasks = map task_in f.tasks } }) paths
    ∙ ap (λ (ns : List ℕ). record { rules = f.rules; parts = record { clock = f.clock; closed = f.closed; paths = map path_in f.seats ++ seat.path ∷ []; slots = ns; tasks = map task_in f.tasks } }) slots

heard_task : (f : Front) (task : Submission) → heard_of (record f { tasks = f.tasks ++ task ∷ [] }) ≡ hear (heard_of f) (lines.Task task)
heard_task f task =
    let tasks : map task_in (f.tasks ++ task ∷ []) ≡ map task_in f.tasks ++ task.task ∷ [] = map-append task_in f.tasks (task ∷ []) in
    ap (λ (ts : List Task). record { rules = f.rules; parts = record { clock = f.clock; closed = f.closed; paths = map path_in f.seats; slots = map slots_in f.seats; tasks = ts } }) tasks

heard_state : (f : Front) (clock : ℕ) (closed : _) (kind : _) → f.seats ≡ [] → f.tasks ≡ [] → heard_of (record f { clock = clock; closed = closed; kind = kind }) ≡ hear (heard_of f) (lines.State clock closed kind)
heard_state f clock closed kind s t = ap (λ (p : Parts). record { rules = f.rules; parts = p }) (parts_bare (record f { clock = clock; closed = closed; kind = kind }) s t)

on : (f : Front) (n m : ℕ) (stage : Stage) (line : Line) → StandsAt stage (draft f n m stage) → expects stage line ≡ true → heard_of (put (draft f n m stage) line).front ≡ hear (heard_of f) line
on f n m stages.Title lines.Title s may = refl
on f n m stages.Before (lines.Before before) s may = refl
on f n m stages.Rules (lines.Rules rules) s may = refl
on f n m stages.Rules (lines.State clock closed kind) s may = heard_state f clock closed kind s.1.seats s.1.tasks
on f n m stages.State (lines.State clock closed kind) s may = heard_state f clock closed kind s.1.seats s.1.tasks
on f n m stages.Entries (lines.Entries counts) s may = refl
on f n m stages.Agents (lines.Agents count) s may = refl
on f n m stages.Seats (lines.Agent seat) s may = heard_seat f seat
on f n m stages.Tasks (lines.Tasks count) s may = refl
on f n m stages.Submissions (lines.Task task) s may = heard_task f task
on f n m stages.Begin lines.Begin s may = refl
on f n m stage line s may = absurd cc

pub heard_on : (d : Draft) (line : Line) → StandsAt d.stage d → expects d.stage line ≡ true → heard_of (put d line).front ≡ hear (heard_of d.front) line
heard_on d line s may = on d.front d.agents d.tasks d.stage line s may

pub head_on : (d : Draft) (line : Line) → head_of (put d line).front ≡ with_head (head_of d.front) line
head_on d lines.Title = refl
head_on d (lines.Before before) = refl
head_on d (lines.Rules rules) = refl
head_on d (lines.State clock closed kind) = refl
head_on d (lines.Entries counts) = refl
head_on d (lines.Agents count) = refl
head_on d (lines.Agent seat) = refl
head_on d (lines.Tasks count) = refl
head_on d (lines.Task task) = refl
head_on d lines.Begin = refl

pub callers_on : (d : Draft) (line : Line) → map caller_in (put d line).front.tasks ≡ with_caller (map caller_in d.front.tasks) line
callers_on d lines.Title = refl
callers_on d (lines.Before before) = refl
callers_on d (lines.Rules rules) = refl
callers_on d (lines.State clock closed kind) = refl
callers_on d (lines.Entries counts) = refl
callers_on d (lines.Agents count) = refl
callers_on d (lines.Agent seat) = refl
callers_on d (lines.Tasks count) = refl
callers_on d (lines.Task task) = map-append caller_in d.front.tasks (task ∷ [])
callers_on d lines.Begin = refl

pub hear_last : (h : Heard) (taken : List Line) (line : Line) → hear_all h (taken ++ line ∷ []) ≡ hear (hear_all h taken) line
hear_last h [] line = refl
hear_last h (first ∷ taken) line = hear_last (hear h first) taken line
