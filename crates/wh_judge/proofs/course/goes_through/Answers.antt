use Rattle.std.proofs.Common.{arith, subst}
use Rattle.std.proofs.lemmas.Bool.{eqb-true, eq-eqb}
use Rattle.wh_judge.specs.Courses.{GoesPast}
use Rattle.wh_judge.proofs.Courses.{visiting-none, visiting-more, delivers-visited}
use Rattle.wh_judge.proofs.course.goes_through.Goals as goal

pub loop-k-init : goal.loop-k-init
loop-k-init c = visiting-none c.args.stops.now c.args.path.now

pub loop-k-preserved : goal.loop-k-preserved
loop-k-preserved c =
    visiting-more c.args.stops.now c.args.path.now c.loop-k.k c.loop-k.visited c.go_past-visited.result c.loop-k.invariant
    (subst (λ here. GoesPast c.args.stops.now c.loop-k.visited here c.go_past-visited.result) c.at.ensures c.go_past-visited.ensures)

pub returns-else-visited-stops : goal.returns-else-visited-stops
returns-else-visited-stops c = (
  λ same. absurd (c.if-visited-stops.false (eqb-true _ _ same)),
  λ d. eq-eqb _ _ (delivers-visited c.args.stops.now c.args.path.now c.loop-k.k c.loop-k.visited c.loop-k.invariant (omega arith) c.requires d),
)
