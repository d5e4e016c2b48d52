use Rattle.std.proofs.Common.{arith}
use Rattle.wh_timetable.proofs.PlaceLemmas.{same_at}
use Rattle.wh_timetable.proofs.places.want_at.Goals as goal

pub returns : goal.returns
returns c = same_at c.args.now c.args.places.now c.place_of-at.result c.index-places-at.result c.want_one.new.self (omega arith) c.want_one.ensures
