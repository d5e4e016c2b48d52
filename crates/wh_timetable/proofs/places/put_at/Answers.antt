use Rattle.std.proofs.Common.{sym, arith}
use Rattle.wh_timetable.proofs.PlaceLemmas.{put_there}
use Rattle.wh_timetable.proofs.places.put_at.Goals as goal

pub returns : goal.returns
returns c = λ done. put_there c.args.places.now c.place_of-at.result c.index-places-at.result c.put.new.self c.args.stay (omega arith) (sym c.place_of-at.ensures.value) (c.put.ensures done)
