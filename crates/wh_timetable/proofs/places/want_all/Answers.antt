use Rattle.std.proofs.Common.{sym, subst}
use Rattle.wh_timetable.specs.Places.{AreSame}
use Rattle.wh_timetable.proofs.PlaceLemmas.{same_same}
use Rattle.wh_timetable.proofs.places.want_all.Goals as goal
use Rattle.wh_timetable.proofs.places.want_all.Goals.{then-is_visit, else-is_visit}

pub loop-k-preserved : goal.loop-k-preserved
loop-k-preserved c = elim c.if-is_visit.branch [
  | then-is_visit w ↦ subst (AreSame c.args.now c.args.places.now) (sym w.places-is) (same_same c.args.now c.args.places.now c.loop-k.places w.want_at.new.places c.loop-k.invariant w.want_at.ensures)
  | else-is_visit w ↦ subst (AreSame c.args.now c.args.places.now) (sym w.places-is) c.loop-k.invariant
]
