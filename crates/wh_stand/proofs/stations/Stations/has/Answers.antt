use Rattle.std.proofs.Common.{sym, subst, ◌∙◌}
use Rattle.std.specs.Prelude.{◌↔◌, IsTrue}
use Rattle.std.proofs.lemmas.Map.Views.{Contains-from_any, list_any-from_Contains}
use Rattle.wh_grid.proofs.Cells.{is_cell-same, is_cell_equiv}
use Rattle.wh_points.specs.Points.{Layout}
use Rattle.wh_core.specs.Laws.{IsStationCell}
use Rattle.wh_stand.proofs.stations.Stations.has.Goals as goal

pub returns : goal.returns
returns c =
    let cells = c.self.inside.cells.keys in
    let cell = c.args.cell in
    subst (λ (layout : Layout). IsTrue c.contains.result ↔ IsStationCell layout cell) c.self.view_is (
      λ found. (c.self.invariant cell).0 (Contains-from_any is_cell-same cell cells (sym c.contains.ensures ∙ found)),
      λ stands. c.contains.ensures ∙ list_any-from_Contains is_cell_equiv cell cells ((c.self.invariant cell).1 stands),
    )
