use Rattle.std.proofs.Common.{false, sym, subst, arith}
use Rattle.wh_points.specs.Points.{Site}
use Rattle.wh_path.specs.Paths.{cell_at}
use Rattle.wh_formed.specs.Fills.{IsMarked}
use Rattle.wh_formed.specs.Labels.{AreLabelsBeside}
use Rattle.wh_formed.proofs.LinkLemmas.{first_cut_by_numbers}
use Rattle.wh_formed.proofs.checker.first_cut.Goals as goal

pub returns-clause-cut : goal.returns-clause-cut
returns-clause-cut c = λ layout listed b is.
    let site : Site = record { grid = c.args.grid.now; layout = layout; homes = false } in
    let cells = c.args.cells.now in
    let o = c.args.open_cells.now in
    let numbers = c.numbers.result.now in
    let first = c.first_unlinked.ensures in
    let labels = c.in_ok-label_beside.ensures.labels in
    first_cut_by_numbers site cells o numbers (sym listed) c.requires.table c.first_unlinked.result (subst (AreLabelsBeside site.grid (IsMarked site.grid o) (cell_at cells 0)) (sym c.numbers.ensures) labels) first (grind (arith, c.if-is_empty.ensures)) b is
