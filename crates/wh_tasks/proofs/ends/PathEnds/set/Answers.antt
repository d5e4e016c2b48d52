use Rattle.std.proofs.Common.{◌<◌, length, sym}
use Rattle.wh_tasks.proofs.Ending.{some-end, fits-set, counted-set}
use Rattle.wh_tasks.proofs.ends.PathEnds.set.Goals as goal

pub lower-requires : goal.lower-requires
lower-requires c =
    let e = c.self.inside in
    let within : c.args.agent < length e.cells.items = rw c.self.view_is c.requires in
    record { some = some-end e.counts e.cells.items c.args.agent c.index-before.result.now within (sym c.index-before.ensures) c.self.invariant }

pub raise-requires : goal.raise-requires
raise-requires c =
    let e = c.self.inside in
    let within : c.args.agent < length e.cells.items = rw c.self.view_is c.requires in
    record { fits = fits-set e.counts c.lower.new.self e.cells.items c.args.agent c.index-before.result.now c.args.cell within (sym c.index-before.ensures) c.self.invariant c.lower.ensures }

pub invariant_of-self : goal.invariant_of-self
invariant_of-self c =
    let e = c.self.inside in
    let within : c.args.agent < length e.cells.items = rw c.self.view_is c.requires in
    counted-set e.counts c.lower.new.self c.raise.new.self e.cells.items c.args.agent c.index-before.result.now c.args.cell within (sym c.index-before.ensures) c.self.invariant c.lower.ensures c.raise.ensures
