use Rattle.std.proofs.Common.{Option, Some, subst, Contains}
use Rattle.std.specs.Prelude.{IfSome}
use Rattle.wh_grid.specs.declared.cell.Cell.{Cell}
use Rattle.wh_grid.proofs.OpenCells.{one_open, none_more}
use Rattle.wh_grid.proofs.grid.Grid.add_open.Goals as goal

pub returns-then-passable-clause-open : goal.returns-then-passable-clause-open
returns-then-passable-clause-open c = λ seen are new.
    let fresh : IfSome (Some c.in-Some.cell) (λ d. Contains seen d → ⊥) = subst (λ (v : Option Cell). IfSome v (λ d. Contains seen d → ⊥)) c.in-Some.is new in
    rw (c.in-Some.is, c.push.ensures.items) (one_open c.args.self.now seen c.args.found.now.items c.in-Some.cell are (c.passable.ensures.0 c.if-passable.true) fresh)

pub returns-else-passable-clause-open : goal.returns-else-passable-clause-open
returns-else-passable-clause-open c = λ seen are new.
    rw c.in-Some.is (none_more c.args.self.now seen c.args.found.now.items c.in-Some.cell are (λ p. let yes = c.passable.ensures.1 p in let no = c.if-passable.false in absurd cc))
