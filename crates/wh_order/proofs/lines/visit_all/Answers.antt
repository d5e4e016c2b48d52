use Rattle.std.proofs.Common.{Option, Some, arith}
use Rattle.indexmap.specs.IndexMap.{Updates}
use Rattle.wh_path.specs.Paths.{cell_at}
use Rattle.wh_order.specs.declared.visit.Visit.{Visit}
use Rattle.wh_grid.specs.Cells.{is_cell}
use Rattle.wh_order.proofs.Latest.{on-ok, visited-more}
use Rattle.wh_order.proofs.lines.visit_all.Goals as goal

pub loop-i-preserved : goal.loop-i-preserved
loop-i-preserved c =
    let visited = c.loop-i.invariant.visited in
    let room = c.loop-i.invariant.room in
    let spent = c.insert.ensures.spare in
    let i = c.loop-i.i in
    let cells = c.args.cells.now in
    let visit : Option Visit = Some (record { agent = i; time = c.args.time }) in
    let updated = on-ok c.insert.result c.unwrap.result (Updates is_cell c.loop-i.latest c.insert.new.self (cell_at cells i) visit) c.unwrap.ensures c.insert.ensures.updates in
    record {
      room = omega arith;
      visited = visited-more i c.args.time cells c.args.latest.now.entries c.loop-i.latest.entries c.insert.new.self.entries (omega arith) c.requires.differ visited updated.0;
    }
