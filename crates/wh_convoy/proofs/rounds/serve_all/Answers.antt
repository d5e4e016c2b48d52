use Rattle.std.proofs.Common.{◌≡◌, ap, subst, sym, true, false}
use Rattle.wh_dispatch.specs.Manning.{Names}
use Rattle.wh_convoy.specs.declared.fault.ConvoyFault.{ConvoyFault}
use Rattle.wh_convoy.specs.Convoys.{HasCause}
use Rattle.wh_dispatch.proofs.Manning.{begun_by, begun_stands}
use Rattle.wh_convoy.proofs.Recordings.{convoys_from, served_names, until_from, stopped_names}
use Rattle.wh_convoy.proofs.rounds.serve_all.Goals as goal

pub serve-requires-clause-safe : goal.serve-requires-clause-safe
serve-requires-clause-safe g c = record { log = c.requires.log; arrivals = c.requires.arrivals; none_waits = c.requires.none_waits }

pub serve-requires-clause-stands : goal.serve-requires-clause-stands
serve-requires-clause-stands g c =
    let m = c.args.manned.now in (
      begun_by m.warehouse.now.book m.spares.now.items m.vehicles.now m.asker (record { warehouse = m.warehouse.ghost_name; spares = m.spares.ghost_name; vehicles = m.vehicles.ghost_name }) c.requires.manned.0,
      begun_stands m.warehouse.now.book m.spares.now.items m.vehicles.now m.asker (record { warehouse = m.warehouse.ghost_name; spares = m.spares.ghost_name; vehicles = m.vehicles.ghost_name }) m.halted m.first m.begun m.said.now.items c.requires.going c.requires.first c.requires.begun c.requires.manned.0 c.requires.manned.1,
    )

pub returns-in-Ok-clause-ok : goal.returns-in-Ok-clause-ok
returns-in-Ok-clause-ok g c =
    convoys_from g.P.Plans.fits_map g.P.Plans.slot_count _ _ _ _ _ _ _ _ _ c.requires.going c.requires.first c.requires.begun _ _ _ _ _ _ _ _ _ c.args.lines.now c.serve.new.lines (g.W.Write.contents c.args.writer.now) (g.W.Write.contents c.serve.new.writer) _ _ _ c.in-Ok.field-0 (λ e. let clash : false ≡ true = c.in-Ok.ensures.over e in cc) c.in-Ok.ensures.ok

pub returns-in-Ok-clause-warehouse : goal.returns-in-Ok-clause-warehouse
returns-in-Ok-clause-warehouse g c =
    ap (λ (names : Names). names.warehouse) (served_names g.P.Plans.fits_map g.P.Plans.slot_count _ _ _ _ _ _ _ _ _ c.requires.going c.requires.first c.requires.begun _ _ _ _ _ _ _ _ _ c.args.lines.now c.serve.new.lines (g.W.Write.contents c.args.writer.now) (g.W.Write.contents c.serve.new.writer) _ _ _ c.in-Ok.field-0 (λ e. let clash : false ≡ true = c.in-Ok.ensures.over e in cc) c.in-Ok.ensures.ok c.requires.manned.0 c.requires.manned.1).0

pub returns-in-Ok-clause-spares : goal.returns-in-Ok-clause-spares
returns-in-Ok-clause-spares g c =
    ap (λ (names : Names). names.spares) (served_names g.P.Plans.fits_map g.P.Plans.slot_count _ _ _ _ _ _ _ _ _ c.requires.going c.requires.first c.requires.begun _ _ _ _ _ _ _ _ _ c.args.lines.now c.serve.new.lines (g.W.Write.contents c.args.writer.now) (g.W.Write.contents c.serve.new.writer) _ _ _ c.in-Ok.field-0 (λ e. let clash : false ≡ true = c.in-Ok.ensures.over e in cc) c.in-Ok.ensures.ok c.requires.manned.0 c.requires.manned.1).0

pub returns-in-Ok-clause-vehicles : goal.returns-in-Ok-clause-vehicles
returns-in-Ok-clause-vehicles g c =
    ap (λ (names : Names). names.vehicles) (served_names g.P.Plans.fits_map g.P.Plans.slot_count _ _ _ _ _ _ _ _ _ c.requires.going c.requires.first c.requires.begun _ _ _ _ _ _ _ _ _ c.args.lines.now c.serve.new.lines (g.W.Write.contents c.args.writer.now) (g.W.Write.contents c.serve.new.writer) _ _ _ c.in-Ok.field-0 (λ e. let clash : false ≡ true = c.in-Ok.ensures.over e in cc) c.in-Ok.ensures.ok c.requires.manned.0 c.requires.manned.1).0

pub returns-in-Ok-clause-log : goal.returns-in-Ok-clause-log
returns-in-Ok-clause-log g c =
    (served_names g.P.Plans.fits_map g.P.Plans.slot_count _ _ _ _ _ _ _ _ _ c.requires.going c.requires.first c.requires.begun _ _ _ _ _ _ _ _ _ c.args.lines.now c.serve.new.lines (g.W.Write.contents c.args.writer.now) (g.W.Write.contents c.serve.new.writer) _ _ _ c.in-Ok.field-0 (λ e. let clash : false ≡ true = c.in-Ok.ensures.over e in cc) c.in-Ok.ensures.ok c.requires.manned.0 c.requires.manned.1).1.log

pub returns-in-Ok-clause-arrivals : goal.returns-in-Ok-clause-arrivals
returns-in-Ok-clause-arrivals g c =
    (served_names g.P.Plans.fits_map g.P.Plans.slot_count _ _ _ _ _ _ _ _ _ c.requires.going c.requires.first c.requires.begun _ _ _ _ _ _ _ _ _ c.args.lines.now c.serve.new.lines (g.W.Write.contents c.args.writer.now) (g.W.Write.contents c.serve.new.writer) _ _ _ c.in-Ok.field-0 (λ e. let clash : false ≡ true = c.in-Ok.ensures.over e in cc) c.in-Ok.ensures.ok c.requires.manned.0 c.requires.manned.1).1.arrivals

pub returns-in-Err-clause-fault : goal.returns-in-Err-clause-fault
returns-in-Err-clause-fault g c =
    until_from g.P.Plans.fits_map g.P.Plans.slot_count _ _ _ _ _ _ _ _ _ c.requires.going c.requires.first c.requires.begun _ _ _ _ _ _ _ _ _ c.args.lines.now c.serve.new.lines (g.W.Write.contents c.args.writer.now) (g.W.Write.contents c.serve.new.writer) _ _ c.in-Err.fault c.in-Err.ensures.fault

pub returns-in-Err-clause-warehouse : goal.returns-in-Err-clause-warehouse
returns-in-Err-clause-warehouse g c =
    ap (λ (names : Names). names.warehouse) (stopped_names g.P.Plans.fits_map g.P.Plans.slot_count _ _ _ _ _ _ _ _ _ c.requires.going c.requires.first c.requires.begun _ _ _ _ _ _ _ _ _ c.args.lines.now c.serve.new.lines (g.W.Write.contents c.args.writer.now) (g.W.Write.contents c.serve.new.writer) _ _ c.in-Err.fault c.in-Err.ensures.fault c.requires.manned.0 c.requires.manned.1).0

pub returns-in-Err-clause-spares : goal.returns-in-Err-clause-spares
returns-in-Err-clause-spares g c =
    ap (λ (names : Names). names.spares) (stopped_names g.P.Plans.fits_map g.P.Plans.slot_count _ _ _ _ _ _ _ _ _ c.requires.going c.requires.first c.requires.begun _ _ _ _ _ _ _ _ _ c.args.lines.now c.serve.new.lines (g.W.Write.contents c.args.writer.now) (g.W.Write.contents c.serve.new.writer) _ _ c.in-Err.fault c.in-Err.ensures.fault c.requires.manned.0 c.requires.manned.1).0

pub returns-in-Err-clause-vehicles : goal.returns-in-Err-clause-vehicles
returns-in-Err-clause-vehicles g c =
    ap (λ (names : Names). names.vehicles) (stopped_names g.P.Plans.fits_map g.P.Plans.slot_count _ _ _ _ _ _ _ _ _ c.requires.going c.requires.first c.requires.begun _ _ _ _ _ _ _ _ _ c.args.lines.now c.serve.new.lines (g.W.Write.contents c.args.writer.now) (g.W.Write.contents c.serve.new.writer) _ _ c.in-Err.fault c.in-Err.ensures.fault c.requires.manned.0 c.requires.manned.1).0

pub returns-in-Err-clause-log : goal.returns-in-Err-clause-log
returns-in-Err-clause-log g c =
    (stopped_names g.P.Plans.fits_map g.P.Plans.slot_count _ _ _ _ _ _ _ _ _ c.requires.going c.requires.first c.requires.begun _ _ _ _ _ _ _ _ _ c.args.lines.now c.serve.new.lines (g.W.Write.contents c.args.writer.now) (g.W.Write.contents c.serve.new.writer) _ _ c.in-Err.fault c.in-Err.ensures.fault c.requires.manned.0 c.requires.manned.1).1.log

pub returns-in-Err-clause-arrivals : goal.returns-in-Err-clause-arrivals
returns-in-Err-clause-arrivals g c =
    (stopped_names g.P.Plans.fits_map g.P.Plans.slot_count _ _ _ _ _ _ _ _ _ c.requires.going c.requires.first c.requires.begun _ _ _ _ _ _ _ _ _ c.args.lines.now c.serve.new.lines (g.W.Write.contents c.args.writer.now) (g.W.Write.contents c.serve.new.writer) _ _ c.in-Err.fault c.in-Err.ensures.fault c.requires.manned.0 c.requires.manned.1).1.arrivals

pub returns-in-Err-clause-cause : goal.returns-in-Err-clause-cause
returns-in-Err-clause-cause g c =
    subst (λ (fault : ConvoyFault). HasCause fault (g.L.Journal.failed c.serve.new.keeper.log.now) (g.L.Journal.failed c.serve.new.keeper.arrivals.now)) (sym c.fault_of.ensures)
    (stopped_names g.P.Plans.fits_map g.P.Plans.slot_count _ _ _ _ _ _ _ _ _ c.requires.going c.requires.first c.requires.begun _ _ _ _ _ _ _ _ _ c.args.lines.now c.serve.new.lines (g.W.Write.contents c.args.writer.now) (g.W.Write.contents c.serve.new.writer) _ _ c.in-Err.fault c.in-Err.ensures.fault c.requires.manned.0 c.requires.manned.1).2
