use Rattle.std.proofs.Common.{List, sym, subst}
use Rattle.wh_grid.specs.declared.cell.Cell.{Cell}
use Rattle.wh_timetable.specs.Timetables.{IsTold}
use Rattle.wh_timetable.proofs.timetable.tick_all.Goals as goal

pub returns-clause-told : goal.returns-clause-told
returns-clause-told c = λ done told. subst (λ (paths : List (List Cell)). IsTold c.tick.new.self paths) (sym c.advance_moving.ensures) (c.tick.ensures done c.args.paths.now told)
