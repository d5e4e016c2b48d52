use Rattle.std.proofs.Common.{sym, ◌∙◌, arith}
use Rattle.std.proofs.lemmas.Bool.{false≢true}
use Rattle.wh_grid.specs.declared.cell.Cell.{Cell}
use Rattle.wh_grid.specs.Grids.{IsPassable}
use Rattle.wh_stand.proofs.Times.{at-all_times}
use Rattle.wh_stand.proofs.motion.first_blocked.Goals as goal

pub returns-then-not-passable-clause-some : goal.returns-then-not-passable-clause-some
returns-then-not-passable-clause-some c = record {
  when = c.loop-k.k;
  there = sym c.at-cell.ensures;
  blocked = λ passable. false≢true (sym c.if-not-passable.true ∙ c.passable.ensures.1 passable);
  before = c.loop-k.invariant;
}

pub returns-clause-none : goal.returns-clause-none
returns-clause-none c = at-all_times (λ (d : Cell). IsPassable c.args.grid.now d) c.args.path.now c.loop-k.k (omega arith) c.loop-k.invariant
