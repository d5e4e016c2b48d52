use Rattle.std.proofs.Common.{sym, subst, ◌∙◌, arith}
use Rattle.std.proofs.lemmas.Bool.{false≢true}
use Rattle.wh_grid.specs.declared.cell.Cell.{Cell}
use Rattle.wh_grid.specs.Grids.{IsMove}
use Rattle.wh_path.specs.Paths.{at}
use Rattle.wh_stand.proofs.Times.{moves-all_times}
use Rattle.wh_stand.proofs.motion.moves.Goals as goal

pub returns-clause-yes : goal.returns-clause-yes
returns-clause-yes c = λ _. moves-all_times c.args.path.now c.loop-k.k (omega arith) c.loop-k.invariant

pub returns-then-not-is_move-clause-no : goal.returns-then-not-is_move-clause-no
returns-then-not-is_move-clause-no c = λ _. (
  c.loop-k.k,
  λ move. false≢true (sym c.if-not-is_move.true ∙ c.is_move.ensures.1
      (subst (λ (d : Cell). IsMove d c.at-in-loop-k.result) (sym c.at.ensures)
      (subst (λ (d : Cell). IsMove (at c.args.path.now c.loop-k.k) d) (sym c.at-in-loop-k.ensures) move))),
)
