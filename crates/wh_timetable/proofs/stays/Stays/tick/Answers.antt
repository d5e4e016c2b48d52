use Rattle.std.proofs.Common.{sym, subst, arith}
use Rattle.wh_timetable.specs.Timetables.{Noted, IsTold}
use Rattle.wh_timetable.proofs.ToldLemmas.{told_later}
use Rattle.wh_timetable.proofs.stays.Stays.tick.Goals as goal

pub returns : goal.returns
returns c = λ done paths told.
    let s = c.self.inside in
    told_later s.clock s.places.items paths (omega arith) (subst (λ (n : Noted). IsTold n paths) (sym c.self.view_is) told)
