use Rattle.std.proofs.Common.{◌+◌, ◌<◌, List, subst, arith}
use Rattle.wh_grid.specs.declared.cell.Cell.{Cell}
use Rattle.wh_path.specs.Paths.{last_index}
use Rattle.wh_timetable.specs.Stays.{endless}
use Rattle.wh_timetable.specs.Places.{IsNoted}
use Rattle.wh_timetable.proofs.ToldLemmas.{told_added}
use Rattle.wh_timetable.proofs.noting.add_agent.Goals as goal

pub returns : goal.returns
returns c = λ done.
    let paths = c.args.paths.now in
    let noted = subst (λ (p : List Cell). IsNoted p c.in-Ok.agent c.args.clock endless c.args.places.now c.note_all.new.places) c.cells.ensures.value (c.note_all.ensures.noted done) in
    let short = subst (λ (p : List Cell). c.args.clock + last_index p < endless) c.cells.ensures.value (c.note_all.ensures.short done) in
    told_added c.args.clock paths c.args.places.now c.requires.told c.in-Ok.agent c.args.path.now short (omega arith) c.note_all.new.places noted
