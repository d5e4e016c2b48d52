use Rattle.std.proofs.Common.{◌≡◌, subst, ◌∙◌}
use Rattle.wh_points.specs.Points.{Layout}
use Rattle.wh_points.specs.PointLines.{has_cell}
use Rattle.wh_points.proofs.LineSteps.{has_cell-among}
use Rattle.wh_points.proofs.draft.Draft.has_cell.Goals as goal

pub returns : goal.returns
returns c =
    subst (λ (layout : Layout). c.contains.result ≡ has_cell c.args.cell.x c.args.cell.y layout.points) c.self.view_is
    (c.contains.ensures ∙ has_cell-among c.args.cell c.self.inside.cells.keys c.self.inside.points.points c.self.invariant)
