use Rattle.std.proofs.Common.{ℕ, ◌≤◌, ◌++◌, ◌∙◌, List, length, sym, ap, subst}
use Rattle.wh_grid.specs.declared.cell.Cell.{Cell}
use Rattle.wh_tasks.specs.declared.task.Task.{Task}
use Rattle.wh_event.specs.declared.entry.Entry.{Entry}
use Rattle.wh_front.specs.declared.front.Front.{Front}
use Rattle.wh_snapshot.proofs.Columns.{gives_nothing}
use Rattle.wh_snapshot.specs.Snapshots.{submitters, CanCount, HaveCallers}
use Rattle.wh_snapshot.proofs.Fitting.{as_many, as_seats, snapshot_told, front_fits, front_state}
use Rattle.wh_snapshot.proofs.front.snapshot_of.Goals as goal

pub returns-in_err-seats-clause-is : goal.returns-in_err-seats-clause-is
returns-in_err-seats-clause-is c = gives_nothing _ _ c.from_residual-in_err-seats.result c.from_residual-in_err-seats.ensures.1

pub returns-in_err-seats-clause-before : goal.returns-in_err-seats-clause-before
returns-in_err-seats-clause-before c = gives_nothing _ _ c.from_residual-in_err-seats.result c.from_residual-in_err-seats.ensures.1

pub returns-in_err-seats-clause-rules : goal.returns-in_err-seats-clause-rules
returns-in_err-seats-clause-rules c = gives_nothing _ _ c.from_residual-in_err-seats.result c.from_residual-in_err-seats.ensures.1

pub returns-in_err-seats-clause-kind : goal.returns-in_err-seats-clause-kind
returns-in_err-seats-clause-kind c = gives_nothing _ _ c.from_residual-in_err-seats.result c.from_residual-in_err-seats.ensures.1

pub returns-in_err-seats-clause-fits : goal.returns-in_err-seats-clause-fits
returns-in_err-seats-clause-fits c = gives_nothing _ _ c.from_residual-in_err-seats.result c.from_residual-in_err-seats.ensures.1

pub returns-in_err-seats-clause-state : goal.returns-in_err-seats-clause-state
returns-in_err-seats-clause-state c = gives_nothing _ _ c.from_residual-in_err-seats.result c.from_residual-in_err-seats.ensures.1

pub returns-in_err-callers-clause-is : goal.returns-in_err-callers-clause-is
returns-in_err-callers-clause-is c = gives_nothing _ _ c.from_residual-in_err-callers.result c.from_residual-in_err-callers.ensures.1

pub returns-in_err-callers-clause-before : goal.returns-in_err-callers-clause-before
returns-in_err-callers-clause-before c = gives_nothing _ _ c.from_residual-in_err-callers.result c.from_residual-in_err-callers.ensures.1

pub returns-in_err-callers-clause-rules : goal.returns-in_err-callers-clause-rules
returns-in_err-callers-clause-rules c = gives_nothing _ _ c.from_residual-in_err-callers.result c.from_residual-in_err-callers.ensures.1

pub returns-in_err-callers-clause-kind : goal.returns-in_err-callers-clause-kind
returns-in_err-callers-clause-kind c = gives_nothing _ _ c.from_residual-in_err-callers.result c.from_residual-in_err-callers.ensures.1

pub returns-in_err-callers-clause-fits : goal.returns-in_err-callers-clause-fits
returns-in_err-callers-clause-fits c = gives_nothing _ _ c.from_residual-in_err-callers.result c.from_residual-in_err-callers.ensures.1

pub returns-in_err-callers-clause-state : goal.returns-in_err-callers-clause-state
returns-in_err-callers-clause-state c = gives_nothing _ _ c.from_residual-in_err-callers.result c.from_residual-in_err-callers.ensures.1

pub submissions_of-requires : goal.submissions_of-requires
submissions_of-requires c =
    let had = c.args.earlier.now.callers.now in
    let book = c.requires.reached.0 in
    let is = c.requires.reached.1 in
    let callers = c.as_slice.ensures.value ∙ c.in_ok-callers.ensures ∙ ap (λ (entries : List Entry). had ++ submitters entries) is.history_is in
    let many = as_many book.site book.opening book.history book.state had is.run c.requires.reached.2 in
    record { each = ap length callers ∙ many ∙ sym (ap (λ (tasks : List Task). length tasks) is.tasks_are) }

pub seats_of-requires : goal.seats_of-requires
seats_of-requires c =
    let book = c.requires.reached.0 in
    let is = c.requires.reached.1 in
    record { each = ap (λ (slots : List ℕ). length slots) is.slots_are ∙ as_seats book.site book.opening book.history book.state is.begins is.run ∙ sym (ap (λ (paths : List (List Cell)). length paths) is.paths_are) }

pub returns-clause-is : goal.returns-clause-is
returns-clause-is c = λ book is.
    let front : Front = record { before = c.args.before; rules = c.args.rules; clock = c.args.reached.now.clock; closed = c.args.reached.now.closed; kind = c.args.kind; counts = c.in_ok-counts.counts; seats = c.in_ok-seats.seats; tasks = c.in_ok-tasks.tasks } in
    snapshot_told c.args.earlier.now.callers.now c.args.earlier.now.counts.now book front c.args.reached.now.history.now c.as_slice.result.now c.args.reached.now.paths.now c.args.reached.now.slots.now c.args.reached.now.tasks.now.tasks
    is.history_is is.paths_are is.slots_are is.tasks_are (c.as_slice.ensures.value ∙ c.in_ok-callers.ensures) is.clock_is is.closed_is
    c.in_ok-seats.ensures.paths c.in_ok-seats.ensures.slots c.in_ok-tasks.ensures.tasks c.in_ok-tasks.ensures.callers c.in_ok-counts.ensures.value

pub returns-clause-fits : goal.returns-clause-fits
returns-clause-fits c =
    let book = c.requires.reached.0 in
    let reached = c.requires.reached.1 in
    let front : Front = record { before = c.args.before; rules = c.args.rules; clock = c.args.reached.now.clock; closed = c.args.reached.now.closed; kind = c.args.kind; counts = c.in_ok-counts.counts; seats = c.in_ok-seats.seats; tasks = c.in_ok-tasks.tasks } in
    let is = snapshot_told c.args.earlier.now.callers.now c.args.earlier.now.counts.now book front c.args.reached.now.history.now c.as_slice.result.now c.args.reached.now.paths.now c.args.reached.now.slots.now c.args.reached.now.tasks.now.tasks
    reached.history_is reached.paths_are reached.slots_are reached.tasks_are (c.as_slice.ensures.value ∙ c.in_ok-callers.ensures) reached.clock_is reached.closed_is
    c.in_ok-seats.ensures.paths c.in_ok-seats.ensures.slots c.in_ok-tasks.ensures.tasks c.in_ok-tasks.ensures.callers c.in_ok-counts.ensures.value in
    let few : length book.state.paths ≤ 256 = subst (λ (paths : List (List Cell)). length paths ≤ 256) reached.paths_are reached.few in
    let room = subst (λ (entries : List Entry). CanCount c.args.earlier.now.counts.now entries) reached.history_is c.requires.room in
    let named = subst HaveCallers reached.history_is c.requires.entries in
    front_fits c.args.earlier.now.callers.now c.args.earlier.now.counts.now book front reached.begins reached.run few reached.some c.requires.before c.requires.rules
    room c.requires.callers named is c.in_ok-seats.ensures.fit c.in_ok-tasks.ensures.typed

pub returns-clause-state : goal.returns-clause-state
returns-clause-state c = λ book is.
    let front : Front = record { before = c.args.before; rules = c.args.rules; clock = c.args.reached.now.clock; closed = c.args.reached.now.closed; kind = c.args.kind; counts = c.in_ok-counts.counts; seats = c.in_ok-seats.seats; tasks = c.in_ok-tasks.tasks } in
    let told = snapshot_told c.args.earlier.now.callers.now c.args.earlier.now.counts.now book front c.args.reached.now.history.now c.as_slice.result.now c.args.reached.now.paths.now c.args.reached.now.slots.now c.args.reached.now.tasks.now.tasks
    is.history_is is.paths_are is.slots_are is.tasks_are (c.as_slice.ensures.value ∙ c.in_ok-callers.ensures) is.clock_is is.closed_is
    c.in_ok-seats.ensures.paths c.in_ok-seats.ensures.slots c.in_ok-tasks.ensures.tasks c.in_ok-tasks.ensures.callers c.in_ok-counts.ensures.value in
    front_state c.args.earlier.now.callers.now c.args.earlier.now.counts.now book front is.begins is.run told
