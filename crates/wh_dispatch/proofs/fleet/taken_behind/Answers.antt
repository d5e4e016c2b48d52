use Rattle.std.proofs.Common.{◌∙◌, ◌<◌, List, length, Some, sym, ap, arith}
use Rattle.wh_grid.specs.declared.cell.Cell.{Cell}
use Rattle.wh_event.specs.declared.entry.Entry.{Entry}
use Rattle.wh_dispatch.proofs.Taking.{taken_stands, taken_last, with_stops_is}
use Rattle.wh_dispatch.proofs.fleet.taken_behind.Goals as goal

pub task-requires : goal.task-requires
task-requires g c =
    let book = c.args.warehouse.now.book in
    let value = c.history-history.ensures.value in
    let size = ap (λ (es : List Entry). length es) value in
    let later = c.if-history-before.false in
    let some : 0 < length book.history = omega arith in
    taken_stands book.site book.opening book.history book.state c.in-Some.one c.history-history.ensures.run some (λ front entry e. sym c.in-Some.is ∙ c.taken_last.ensures front entry (value ∙ e))

pub returns-in-Some : goal.returns-in-Some
returns-in-Some g c front more e size few =
    let book = c.args.warehouse.now.book in
    let value = c.history-history.ensures.value in
    let count = ap (λ (es : List Entry). length es) value in
    let later = c.if-history-before.false in
    taken_last book.history book.state.tasks (Some c.in-Some.one) c.args.before (omega arith) (λ front entry e. sym c.in-Some.is ∙ c.taken_last.ensures front entry (value ∙ e)) front more e size few
    ∙ with_stops_is book.state.tasks c.in-Some.one c.task.result.now _ c.task.ensures (ap (λ (cells : List Cell). length cells) c.as_slice.ensures.value)
