use Rattle.std.proofs.Common.{ap}
use Rattle.wh_dispatch.specs.Crews.{Crew}
use Rattle.wh_dispatch.specs.Lines.{Asked}
use Rattle.wh_dispatch.proofs.Texts.{on_ok, on_fault, if_err}
use Rattle.wh_dispatch.proofs.Serving.{from_starved, from_starved_some, from_reserved, begun_reserved, manned_ready}
use Rattle.wh_dispatch.proofs.line.run_still.Goals as goal

pub run_roomy-requires-clause-manned : goal.run_roomy-requires-clause-manned
run_roomy-requires-clause-manned g c =
    let m = c.requires.manned in
    (m.0, manned_ready g.P.Plans.fits_map g.P.Plans.slot_count c.args.asker c.args.vehicles.now.bound c.args.warehouse.now.book c.args.vehicles.now c.reserve_task.new.self c.args.vehicles.now.order.ready (ap (λ (x : Crew). x.order) c.reserve_task.ensures.same) (ap (λ (x : Crew). x.pending) c.reserve_task.ensures.same) m.0 m.1)

pub returns-in-Ok-clause-ok : goal.returns-in-Ok-clause-ok
returns-in-Ok-clause-ok g c = on_ok c.run_roomy.result (λ s. from_reserved g.P.Plans.fits_map g.P.Plans.slot_count c.args.asker c.args.vehicles.now.bound (Asked _) c.reserve_task.new.self.bound c.args.warehouse.now.book c.args.spares.now.items c.args.vehicles.now
    c.reserve_task.new.self c.run_roomy.new.warehouse.book c.run_roomy.new.spares.items c.run_roomy.new.vehicles (g.W.Write.contents c.args.writer.now) (g.W.Write.contents c.run_roomy.new.writer)
    (ap (λ (x : Crew). x.bound) c.reserve_task.ensures.same) (manned_ready g.P.Plans.fits_map g.P.Plans.slot_count c.args.asker c.args.vehicles.now.bound c.args.warehouse.now.book c.args.vehicles.now c.reserve_task.new.self c.args.vehicles.now.order.ready (ap (λ (x : Crew). x.order) c.reserve_task.ensures.same) (ap (λ (x : Crew). x.pending) c.reserve_task.ensures.same)) s) c.run_roomy.ensures.ok

pub returns-in-Ok-clause-err : goal.returns-in-Ok-clause-err
returns-in-Ok-clause-err g c = if_err c.run_roomy.result _ _ (λ fault s. begun_reserved g.P.Plans.fits_map g.P.Plans.slot_count c.args.asker c.args.vehicles.now.bound (Asked _) fault c.reserve_task.new.self.bound c.args.warehouse.now.book c.args.spares.now.items c.args.vehicles.now
    c.reserve_task.new.self c.run_roomy.new.warehouse.book c.run_roomy.new.spares.items (g.W.Write.contents c.args.writer.now) (g.W.Write.contents c.run_roomy.new.writer)
    (ap (λ (x : Crew). x.bound) c.reserve_task.ensures.same) (manned_ready g.P.Plans.fits_map g.P.Plans.slot_count c.args.asker c.args.vehicles.now.bound c.args.warehouse.now.book c.args.vehicles.now c.reserve_task.new.self c.args.vehicles.now.order.ready (ap (λ (x : Crew). x.order) c.reserve_task.ensures.same) (ap (λ (x : Crew). x.pending) c.reserve_task.ensures.same)) s) c.run_roomy.ensures.err

pub returns-in-Err-clause-ok : goal.returns-in-Err-clause-ok
returns-in-Err-clause-ok g c =
    on_ok c.tell_starved.result (λ wrote. from_starved g.P.Plans.fits_map g.P.Plans.slot_count c.args.asker c.args.vehicles.now.bound c.args.command.now c.args.warehouse.now.book c.args.spares.now.items c.args.vehicles.now
    (g.W.Write.contents c.args.writer.now) (g.W.Write.contents c.tell_starved.new.writer) (λ d m asks. absurd (c.requires.still asks))
    c.reserve_task.new.self (manned_ready g.P.Plans.fits_map g.P.Plans.slot_count c.args.asker c.args.vehicles.now.bound c.args.warehouse.now.book c.args.vehicles.now c.reserve_task.new.self c.args.vehicles.now.order.ready (ap (λ (x : Crew). x.order) c.reserve_task.ensures.same) (ap (λ (x : Crew). x.pending) c.reserve_task.ensures.same)) wrote) c.tell_starved.ensures.ok

pub returns-in-Err-clause-err : goal.returns-in-Err-clause-err
returns-in-Err-clause-err g c =
    on_fault c.tell_starved.result _ _ (λ fault is w. from_starved_some g.P.Plans.fits_map g.P.Plans.slot_count c.args.asker c.args.vehicles.now.bound c.args.command.now c.args.warehouse.now.book c.args.spares.now.items c.args.vehicles.now
    (g.W.Write.contents c.args.writer.now) (g.W.Write.contents c.tell_starved.new.writer) (λ d m asks. absurd (c.requires.still asks)) fault is w) c.tell_starved.ensures.fault c.tell_starved.ensures.err
