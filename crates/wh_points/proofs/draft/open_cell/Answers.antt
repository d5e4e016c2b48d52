use Rattle.std.proofs.Common.{refl}
use Rattle.wh_points.proofs.LineSteps.{not_open}
use Rattle.wh_points.proofs.draft.open_cell.Goals as goal

pub returns-else-passable : goal.returns-else-passable
returns-else-passable c =
    rw (not_open c.args.grid.now c.args.x c.args.y (λ p. let yes = c.passable.ensures.1 p in let none = c.if-passable.false in absurd cc)) refl
