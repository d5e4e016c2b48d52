use Rattle.wh_dispatch.specs.Lines.{Asked}
use Rattle.wh_dispatch.proofs.Texts.{on_ok, on_fault, if_err}
use Rattle.wh_dispatch.proofs.Late.{keep_up, none_late}
use Rattle.wh_dispatch.proofs.Serving.{from_held, from_held_some, from_starved, from_starved_some, from_reserved, begun_reserved, manned_ready}
use Rattle.wh_dispatch.proofs.line.tick_in_time.Goals as goal

pub returns-in-Some-clause-ok : goal.returns-in-Some-clause-ok
returns-in-Some-clause-ok g c = on_ok c.tell_notice.result (λ wrote. from_held g.P.Plans.fits_map g.P.Plans.slot_count c.args.asker c.args.vehicles.now.bound c.args.command.now c.args.warehouse.now.book c.args.spares.now.items c.args.vehicles.now
    (g.W.Write.contents c.args.writer.now) (g.W.Write.contents c.tell_notice.new.writer) c.in-Some.notice c.requires.asks c.in-Some.ensures.some wrote) c.tell_notice.ensures.ok

pub returns-in-Some-clause-err : goal.returns-in-Some-clause-err
returns-in-Some-clause-err g c = on_fault c.tell_notice.result _ _ (λ fault is w. from_held_some g.P.Plans.fits_map g.P.Plans.slot_count c.args.asker c.args.vehicles.now.bound c.args.command.now c.args.warehouse.now.book c.args.spares.now.items c.args.vehicles.now
    (g.W.Write.contents c.args.writer.now) (g.W.Write.contents c.tell_notice.new.writer) c.in-Some.notice fault c.requires.asks c.in-Some.ensures.some is w) c.tell_notice.ensures.fault c.tell_notice.ensures.err

pub returns-in-Ok-clause-ok : goal.returns-in-Ok-clause-ok
returns-in-Ok-clause-ok g c = on_ok c.tick.result (λ s. from_reserved g.P.Plans.fits_map g.P.Plans.slot_count c.args.asker c.args.vehicles.now.bound (Asked _) c.reserve.new.self.bound c.args.warehouse.now.book c.args.spares.now.items c.args.vehicles.now
    c.reserve.new.self c.tick.new.warehouse.book c.tick.new.spares.items c.tick.new.vehicles (g.W.Write.contents c.args.writer.now) (g.W.Write.contents c.tick.new.writer)
    c.reserve.ensures.bound (manned_ready g.P.Plans.fits_map g.P.Plans.slot_count c.args.asker c.args.vehicles.now.bound c.args.warehouse.now.book c.args.vehicles.now c.reserve.new.self _ c.in-Ok.ensures.ok c.reserve.ensures.pending) s) c.tick.ensures.ok

pub returns-in-Ok-clause-err : goal.returns-in-Ok-clause-err
returns-in-Ok-clause-err g c = if_err c.tick.result _ _ (λ fault s. begun_reserved g.P.Plans.fits_map g.P.Plans.slot_count c.args.asker c.args.vehicles.now.bound (Asked _) fault c.reserve.new.self.bound c.args.warehouse.now.book c.args.spares.now.items c.args.vehicles.now
    c.reserve.new.self c.tick.new.warehouse.book c.tick.new.spares.items (g.W.Write.contents c.args.writer.now) (g.W.Write.contents c.tick.new.writer)
    c.reserve.ensures.bound (manned_ready g.P.Plans.fits_map g.P.Plans.slot_count c.args.asker c.args.vehicles.now.bound c.args.warehouse.now.book c.args.vehicles.now c.reserve.new.self _ c.in-Ok.ensures.ok c.reserve.ensures.pending) s) c.tick.ensures.err

pub tick-requires-clause-manned : goal.tick-requires-clause-manned
tick-requires-clause-manned g c =
    let m = c.requires.manned in
    (m.0, manned_ready g.P.Plans.fits_map g.P.Plans.slot_count c.args.asker c.args.vehicles.now.bound c.args.warehouse.now.book c.args.vehicles.now c.reserve.new.self _ c.in-Ok.ensures.ok c.reserve.ensures.pending m.0 m.1)

pub returns-in-Err-clause-ok : goal.returns-in-Err-clause-ok
returns-in-Err-clause-ok g c =
    let keep = none_late c.late.result _ c.late.ensures.none c.in_default.not-Some in
    on_ok c.tell_starved.result (λ wrote. from_starved g.P.Plans.fits_map g.P.Plans.slot_count c.args.asker c.args.vehicles.now.bound c.args.command.now c.args.warehouse.now.book c.args.spares.now.items c.args.vehicles.now
    (g.W.Write.contents c.args.writer.now) (g.W.Write.contents c.tell_starved.new.writer) (λ d m asks. keep_up c.args.vehicles.now.order c.args.vehicles.now.bound d m.in_step.represents keep)
    c.reserve.new.self (manned_ready g.P.Plans.fits_map g.P.Plans.slot_count c.args.asker c.args.vehicles.now.bound c.args.warehouse.now.book c.args.vehicles.now c.reserve.new.self c.in-Err.ensures.err.0 c.in-Err.ensures.err.1 c.reserve.ensures.pending) wrote) c.tell_starved.ensures.ok

pub returns-in-Err-clause-err : goal.returns-in-Err-clause-err
returns-in-Err-clause-err g c =
    let keep = none_late c.late.result _ c.late.ensures.none c.in_default.not-Some in
    on_fault c.tell_starved.result _ _ (λ fault is w. from_starved_some g.P.Plans.fits_map g.P.Plans.slot_count c.args.asker c.args.vehicles.now.bound c.args.command.now c.args.warehouse.now.book c.args.spares.now.items c.args.vehicles.now
    (g.W.Write.contents c.args.writer.now) (g.W.Write.contents c.tell_starved.new.writer) (λ d m asks. keep_up c.args.vehicles.now.order c.args.vehicles.now.bound d m.in_step.represents keep) fault is w) c.tell_starved.ensures.fault c.tell_starved.ensures.err
