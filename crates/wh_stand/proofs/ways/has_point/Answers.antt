use Rattle.std.proofs.Common.{refl, sym, ◌∙◌}
use Rattle.std.proofs.lemmas.Bool.{false≢true}
use Rattle.wh_stand.proofs.Strays.{at_none, at_more, at_all, at_read}
use Rattle.wh_stand.proofs.ways.has_point.Goals as goal

pub loop-point-init : goal.loop-point-init
loop-point-init c = at_none c.args.cell

pub loop-point-preserved : goal.loop-point-preserved
loop-point-preserved c =
    at_more c.args.points.now c.loop-point.point-index c.point-item.result c.args.cell c.loop-point-test.true c.point-item.is c.loop-point.invariant
    (λ same. false≢true (sym c.if-is.false ∙ c.is.ensures.1 same))

pub returns-then-is : goal.returns-then-is
returns-then-is c = (
  λ yes. at_read c.args.points.now c.loop-point.point-index c.point-item.result c.args.cell c.loop-point-test.true c.point-item.is (c.is.ensures.0 c.if-is.true),
  λ at. refl,
)

pub returns : goal.returns
returns c = (
  λ yes. absurd (false≢true yes),
  λ at. absurd (at_all c.args.points.now c.loop-point.point-index c.args.cell c.loop-point-test.false c.loop-point.invariant at),
)
