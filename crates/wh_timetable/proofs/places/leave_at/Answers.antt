use Rattle.std.proofs.Common.{sym, arith}
use Rattle.wh_timetable.proofs.PlaceLemmas.{left_at, gone_at}
use Rattle.wh_timetable.proofs.places.leave_at.Goals as goal

pub returns-clause-left : goal.returns-clause-left
returns-clause-left c = left_at c.args.agent c.args.now c.args.places.now c.place_of-at.result c.index-places-at.result c.leave.new.self (omega arith) c.leave.ensures.others c.leave.ensures.gone

pub returns-clause-gone : goal.returns-clause-gone
returns-clause-gone c = gone_at c.args.agent c.args.places.now c.place_of-at.result c.leave.new.self (omega arith) c.args.cell (sym c.place_of-at.ensures.value) (c.leave.ensures.gone c.args.cell)
