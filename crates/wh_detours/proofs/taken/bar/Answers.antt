use Rattle.std.proofs.Common.{inr, refl, sym, subst}
use Rattle.wh_grid.specs.declared.cell.Cell.{Cell}
use Rattle.wh_grid.specs.Grids.{IsPassable}
use Rattle.wh_detours.specs.Taken.{IsTaken}
use Rattle.wh_detours.proofs.taken.bar.Goals.{else-passable-via-then-passable+else-is_taken, else-passable-via-else-passable}
use Rattle.wh_detours.proofs.taken.bar.Goals as goal

pub returns-else-passable : goal.returns-else-passable
returns-else-passable c = inr (
  refl,
  λ stays inside taken.
      elim c.else-passable.branch [
        | else-passable-via-then-passable+else-is_taken w ↦ (let yes = w.is_taken.ensures.1 (subst (λ (d : Cell). IsTaken c.args.others.now d) (sym c.at-cell.ensures) taken) in absurd cc)
        | else-passable-via-else-passable w ↦ (let yes = c.passable.ensures.1 (subst (λ (d : Cell). IsPassable c.args.grid.now d) (sym c.at-cell.ensures) inside) in absurd cc)
      ],
)
