use Rattle.std.proofs.Common.{refl}
use Rattle.std.proofs.lemmas.Bool.{false≢true}
use Rattle.wh_tasks.proofs.Listed.{walk_next, walk_found, next_smaller}
use Rattle.wh_tasks.proofs.cell_lists.latest.Goals as goal

pub returns-then-is-clause-some : goal.returns-then-is-clause-some
returns-then-is-clause-some c = walk_found c.args.stops.now c.args.cell c.args.start c.loop-at.at c.loop-at.invariant c.loop-at-test.true (c.if-is.ensures.0 refl)

pub loop-at-smaller : goal.loop-at-smaller
loop-at-smaller c = next_smaller c.args.stops.now c.args.cell c.args.start c.loop-at.at c.loop-at.invariant c.loop-at-test.true

pub loop-at-preserved : goal.loop-at-preserved
loop-at-preserved c = walk_next c.args.stops.now c.args.cell c.args.start c.loop-at.at c.loop-at.invariant c.loop-at-test.true (λ e. false≢true (c.if-is.ensures.1 e))
