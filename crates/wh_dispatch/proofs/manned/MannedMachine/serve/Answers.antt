use Rattle.std.proofs.Common.{ℕ, List, length, ap, subst, sym}
use Rattle.wh_lines.specs.Text.{short_line}
use Rattle.wh_order.specs.Orders.{Order, Represents}
use Rattle.wh_dispatch.proofs.Manning.{line_served, line_left, line_unbegun}
use Rattle.wh_dispatch.proofs.manned.MannedMachine.serve.Goals as goal

pub returns-in-Ok-serve-clause-ok : goal.returns-in-Ok-serve-clause-ok
returns-in-Ok-serve-clause-ok g c s h =
    let m = c.args.self.now in
    line_served g.P.Plans.fits_map g.P.Plans.slot_count _ (short_line c.args.line.now) m.warehouse.now.book m.spares.now.items m.vehicles.now m.asker _ m.halted m.first m.begun m.said.now.items c.if-self.false s h _ (ap (λ (l : List ℕ). length l) c.as_slice.ensures.value)
    c.serve.new.warehouse.book c.serve.new.spares.items c.serve.new.vehicles c.serve.new.writer.items c.serve.ensures.bound
    m.came.now.items c.note.new.came.items (λ is d rep. c.in-Ok.ensures.ok is d (subst (λ (o : Order). Represents o d) (sym c.order.ensures) rep)) c.in-Ok-serve.ensures.ok

pub returns-in-Err-clause-err : goal.returns-in-Err-clause-err
returns-in-Err-clause-err g c s h =
    let m = c.args.self.now in
    line_unbegun g.P.Plans.fits_map g.P.Plans.slot_count _ (short_line c.args.line.now) m.warehouse.now.book m.spares.now.items m.vehicles.now m.asker _ m.halted m.first m.begun m.said.now.items c.if-self.false s h _ (ap (λ (l : List ℕ). length l) c.as_slice.ensures.value) c.in-Err.ensures.err

pub returns-in-Err-serve-clause-err : goal.returns-in-Err-serve-clause-err
returns-in-Err-serve-clause-err g c s h =
    let m = c.args.self.now in
    rw c.halt_of.ensures
    (line_left g.P.Plans.fits_map g.P.Plans.slot_count _ (short_line c.args.line.now) m.warehouse.now.book m.spares.now.items m.vehicles.now m.asker _ m.halted m.first m.begun m.said.now.items c.if-self.false s h _ (ap (λ (l : List ℕ). length l) c.as_slice.ensures.value)
    c.serve.new.warehouse.book c.serve.new.spares.items c.serve.new.vehicles c.serve.new.writer.items c.serve.ensures.bound
    c.in-Err-serve.fault c.in-Err-serve.ensures.err)
