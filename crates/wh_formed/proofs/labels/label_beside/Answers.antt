use Rattle.std.proofs.Common.{All, arith, subst}
use Rattle.std.proofs.lemmas.List.{take_all}
use Rattle.wh_grid.specs.declared.cell.Cell.{Cell}
use Rattle.wh_formed.specs.Fills.{IsMarked}
use Rattle.wh_formed.specs.Labels.{IsNumbered}
use Rattle.wh_formed.proofs.LabelLemmas.{labels_around, more_near}
use Rattle.wh_formed.proofs.labels.label_beside.Goals as goal

pub loop-next-preserved : goal.loop-next-preserved
loop-next-preserved c =
    let d : Cell = record { x = 0; y = 0 } in
    let before = c.loop-next.invariant in
    let few = before.few in
    let more = c.in_ok-label_cell-2.ensures.more in
    let current = c.in_ok-label_cell-2.ensures.current in
    record {
      parts = more.parts;
      own = λ m. more.kept c.args.cell (before.own m);
      near = more_near c.args.grid.now c.args.open_cells.now c.neighbours-around.result c.loop-next.next-index d c.loop-next.fill.marks.numbers c.label_cell-in-loop-next.new.fill.marks.numbers (omega arith) before.near more;
      few = omega arith;
    }

pub returns-clause-labels : goal.returns-clause-labels
returns-clause-labels c =
    let g = c.args.grid.now in
    let o = c.args.open_cells.now in
    let around = c.neighbours-around.result in
    let near = subst (All (λ r. IsMarked g o r → IsNumbered g c.loop-next.fill.marks.numbers r)) (take_all c.loop-next.next-index around (omega arith)) c.loop-next.invariant.near in
    labels_around g o around c.args.cell c.loop-next.fill.marks.numbers c.loop-next.invariant.parts c.loop-next.invariant.own near c.neighbours-around.ensures.complete
