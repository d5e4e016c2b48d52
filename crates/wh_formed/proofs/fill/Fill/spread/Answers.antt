use Rattle.std.proofs.Common.{arith, subst, Contains}
use Rattle.std.proofs.lemmas.List.{take_all}
use Rattle.wh_formed.specs.Fills.{Spreads}
use Rattle.wh_formed.proofs.FillLemmas.{spreads_more, spreads_around}
use Rattle.wh_formed.proofs.fill.Fill.spread.Goals as goal

pub loop-next-preserved : goal.loop-next-preserved
loop-next-preserved c =
    spreads_more c.args.grid.now c.args.open_cells.now c.neighbours-around.result c.loop-next.next-index _ c.args.self.now c.loop-next.self c.enter.new.self
    (omega arith) c.loop-next.invariant c.in_ok-enter.ensures

pub returns : goal.returns
returns c =
    let g = c.args.grid.now in
    let o = c.args.open_cells.now in
    let around = c.neighbours-around.result in
    spreads_around g o around c.args.cell c.args.self.now c.loop-next.self c.neighbours-around.ensures.moves c.neighbours-around.ensures.complete c.requires.entered
    (subst (λ xs. Spreads g o (Contains xs) c.args.self.now c.loop-next.self) (take_all c.loop-next.next-index around (omega arith)) c.loop-next.invariant)
