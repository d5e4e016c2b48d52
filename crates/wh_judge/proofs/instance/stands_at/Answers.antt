use Rattle.wh_judge.proofs.PointNames.{none-stands, stands-iff}
use Rattle.wh_judge.proofs.instance.stands_at.Goals as goal

pub returns-in-None : goal.returns-in-None
returns-in-None c = (λ e. cc, λ p. absurd (none-stands c.args.points.now c.args.name.now c.args.cell c.in-None.ensures.none p))

pub returns-in-Some : goal.returns-in-Some
returns-in-Some c =
    stands-iff c.args.points.now c.args.name.now c.args.cell c.in-Some.number c.is.result c.are_apart.ensures c.in-Some.ensures.within c.in-Some.ensures.found
    (rw c.cell.ensures at c.is.ensures)
