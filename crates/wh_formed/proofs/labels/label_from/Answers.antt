use Rattle.std.proofs.Common.{◌≡◌, ◌<◌, ◌+◌, false, get_or, sym, ap, subst, ◌∙◌, arith}
use Rattle.wh_grid.specs.declared.cell.Cell.{Cell}
use Rattle.wh_formed.specs.Fills.{IsMarked, place}
use Rattle.wh_formed.proofs.LabelLemmas.{cell_in_height, cell_in_width, more_numbers, place-cell_at}
use Rattle.wh_formed.proofs.labels.label_from.Goals as goal

pub returns-clause-more : goal.returns-clause-more
returns-clause-more c =
    let g = c.args.grid.now in
    let open_cells = c.args.open_cells.now in
    let older = c.args.fill.now.marks in
    let i = c.args.i in
    let s = c.cell_of.result in
    let below = c.requires.inside in
    let at : place g s ≡ i = ap (place g) c.cell_of.ensures ∙ place-cell_at g i below in
    let s_wide : s.x < g.width = subst (λ (d : Cell). d.x < g.width) (sym c.cell_of.ensures) (cell_in_width g i below) in
    let s_high : s.y < g.height = subst (λ (d : Cell). d.y < g.height) (sym c.cell_of.ensures) (cell_in_height g i below) in
    let seed : IsMarked g open_cells s = record { in_width = s_wide; in_height = s_high; marked = ap (λ j. get_or open_cells j false) at ∙ c.if-not-open_cells-i.false } in
    more_numbers g (IsMarked g open_cells) c.requires.table.inside (record { numbers = older.numbers; current = older.current + 1 }) c.run_on.new.self.marks s
    c.requires.parts c.in_ok-run_on.ensures.rounds seed (omega arith) c.in_ok-run_on.ensures.reached i at s_wide
