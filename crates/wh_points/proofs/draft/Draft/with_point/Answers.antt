use Rattle.std.proofs.Common.{◌≡◌, false, sym, subst}
use Rattle.wh_points.specs.Points.{Layout}
use Rattle.wh_points.specs.PointLines.{has_cell}
use Rattle.wh_points.proofs.LineSteps.{cells_pushed}
use Rattle.wh_points.proofs.draft.Draft.with_point.Goals as goal

pub invariant_of-result : goal.invariant_of-result
invariant_of-result c =
    let none = subst (λ (layout : Layout). has_cell c.args.point.cell.x c.args.point.cell.y layout.points ≡ false) (sym c.self.view_is) c.requires.cell in
    rw c.in_ok-points.ensures (cells_pushed c.self.inside.cells.keys c.insert.new.self.keys c.self.inside.points.points c.args.point c.self.invariant c.in_ok-insert.ensures.keys none)
