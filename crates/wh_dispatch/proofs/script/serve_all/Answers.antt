use Rattle.std.proofs.Common.{arith, ◌≡◌, ℕ, List, ap, subst, true, false}
use Rattle.wh_dispatch.specs.Manning.{Names, EndsSo}
use Rattle.wh_dispatch.proofs.Manning.{begun_by, begun_stands}
use Rattle.wh_dispatch.proofs.Dispatched.{dispatches_from, served_names, stops_from, stopped_names}
use Rattle.wh_dispatch.proofs.script.serve_all.Goals as goal

pub serve-requires-clause-stands : goal.serve-requires-clause-stands
serve-requires-clause-stands g c =
    let m = c.args.manned.now in (
      begun_by m.warehouse.now.book m.spares.now.items m.vehicles.now m.asker (record { warehouse = m.warehouse.ghost_name; spares = m.spares.ghost_name; vehicles = m.vehicles.ghost_name }) c.requires.manned.0,
      begun_stands m.warehouse.now.book m.spares.now.items m.vehicles.now m.asker (record { warehouse = m.warehouse.ghost_name; spares = m.spares.ghost_name; vehicles = m.vehicles.ghost_name }) m.halted m.first m.begun m.said.now.items c.requires.going c.requires.first c.requires.begun c.requires.manned.0 c.requires.manned.1,
    )

pub left-requires : goal.left-requires
left-requires g c =
    let m = c.args.manned.now in (
      omega arith,
      (c.in-Err.ensures.fault (begun_by m.warehouse.now.book m.spares.now.items m.vehicles.now m.asker (record { warehouse = m.warehouse.ghost_name; spares = m.spares.ghost_name; vehicles = m.vehicles.ghost_name }) c.requires.manned.0) (begun_stands m.warehouse.now.book m.spares.now.items m.vehicles.now m.asker (record { warehouse = m.warehouse.ghost_name; spares = m.spares.ghost_name; vehicles = m.vehicles.ghost_name }) m.halted m.first m.begun m.said.now.items c.requires.going c.requires.first c.requires.begun c.requires.manned.0 c.requires.manned.1)).1.begun_within,
    )

pub returns-in-Ok-clause-ok : goal.returns-in-Ok-clause-ok
returns-in-Ok-clause-ok g c =
    let m = c.args.manned.now in
    let n = c.serve.new.machine in
    dispatches_from g.P.Plans.fits_map g.P.Plans.slot_count m.warehouse.now.book m.spares.now.items m.vehicles.now m.asker (record { warehouse = m.warehouse.ghost_name; spares = m.spares.ghost_name; vehicles = m.vehicles.ghost_name }) m.halted m.first m.begun m.said.now.items c.requires.going c.requires.first c.requires.begun
    n.warehouse.now.book n.spares.now.items n.vehicles.now n.asker (record { warehouse = n.warehouse.ghost_name; spares = n.spares.ghost_name; vehicles = n.vehicles.ghost_name }) n.halted n.first n.begun n.said.now.items _ _ (λ a r b x. x) c.args.lines.now c.serve.new.lines (g.W.Write.contents c.args.writer.now) (g.W.Write.contents c.serve.new.writer) tt tt
    _ c.in-Ok.field-0 (λ e. let clash : false ≡ true = c.in-Ok.ensures.over e in cc) c.in-Ok.ensures.ok

pub returns-in-Ok-clause-warehouse : goal.returns-in-Ok-clause-warehouse
returns-in-Ok-clause-warehouse g c =
    let m = c.args.manned.now in
    let n = c.serve.new.machine in
    ap (λ (names : Names). names.warehouse)
    (served_names g.P.Plans.fits_map g.P.Plans.slot_count m.warehouse.now.book m.spares.now.items m.vehicles.now m.asker (record { warehouse = m.warehouse.ghost_name; spares = m.spares.ghost_name; vehicles = m.vehicles.ghost_name }) m.halted m.first m.begun m.said.now.items c.requires.going c.requires.first c.requires.begun
    n.warehouse.now.book n.spares.now.items n.vehicles.now n.asker (record { warehouse = n.warehouse.ghost_name; spares = n.spares.ghost_name; vehicles = n.vehicles.ghost_name }) n.halted n.first n.begun n.said.now.items _ _ (λ a r b x. x) c.args.lines.now c.serve.new.lines (g.W.Write.contents c.args.writer.now) (g.W.Write.contents c.serve.new.writer) tt tt
    _ c.in-Ok.field-0 (λ e. let clash : false ≡ true = c.in-Ok.ensures.over e in cc) c.in-Ok.ensures.ok c.requires.manned.0 c.requires.manned.1)

pub returns-in-Ok-clause-spares : goal.returns-in-Ok-clause-spares
returns-in-Ok-clause-spares g c =
    let m = c.args.manned.now in
    let n = c.serve.new.machine in
    ap (λ (names : Names). names.spares)
    (served_names g.P.Plans.fits_map g.P.Plans.slot_count m.warehouse.now.book m.spares.now.items m.vehicles.now m.asker (record { warehouse = m.warehouse.ghost_name; spares = m.spares.ghost_name; vehicles = m.vehicles.ghost_name }) m.halted m.first m.begun m.said.now.items c.requires.going c.requires.first c.requires.begun
    n.warehouse.now.book n.spares.now.items n.vehicles.now n.asker (record { warehouse = n.warehouse.ghost_name; spares = n.spares.ghost_name; vehicles = n.vehicles.ghost_name }) n.halted n.first n.begun n.said.now.items _ _ (λ a r b x. x) c.args.lines.now c.serve.new.lines (g.W.Write.contents c.args.writer.now) (g.W.Write.contents c.serve.new.writer) tt tt
    _ c.in-Ok.field-0 (λ e. let clash : false ≡ true = c.in-Ok.ensures.over e in cc) c.in-Ok.ensures.ok c.requires.manned.0 c.requires.manned.1)

pub returns-in-Ok-clause-vehicles : goal.returns-in-Ok-clause-vehicles
returns-in-Ok-clause-vehicles g c =
    let m = c.args.manned.now in
    let n = c.serve.new.machine in
    ap (λ (names : Names). names.vehicles)
    (served_names g.P.Plans.fits_map g.P.Plans.slot_count m.warehouse.now.book m.spares.now.items m.vehicles.now m.asker (record { warehouse = m.warehouse.ghost_name; spares = m.spares.ghost_name; vehicles = m.vehicles.ghost_name }) m.halted m.first m.begun m.said.now.items c.requires.going c.requires.first c.requires.begun
    n.warehouse.now.book n.spares.now.items n.vehicles.now n.asker (record { warehouse = n.warehouse.ghost_name; spares = n.spares.ghost_name; vehicles = n.vehicles.ghost_name }) n.halted n.first n.begun n.said.now.items _ _ (λ a r b x. x) c.args.lines.now c.serve.new.lines (g.W.Write.contents c.args.writer.now) (g.W.Write.contents c.serve.new.writer) tt tt
    _ c.in-Ok.field-0 (λ e. let clash : false ≡ true = c.in-Ok.ensures.over e in cc) c.in-Ok.ensures.ok c.requires.manned.0 c.requires.manned.1)

pub returns-in-Err-clause-fault : goal.returns-in-Err-clause-fault
returns-in-Err-clause-fault g c =
    let m = c.args.manned.now in
    let n = c.serve.new.machine in
    stops_from g.P.Plans.fits_map g.P.Plans.slot_count m.warehouse.now.book m.spares.now.items m.vehicles.now m.asker (record { warehouse = m.warehouse.ghost_name; spares = m.spares.ghost_name; vehicles = m.vehicles.ghost_name }) m.halted m.first m.begun m.said.now.items c.requires.going c.requires.first c.requires.begun
    n.warehouse.now.book n.spares.now.items n.vehicles.now n.asker (record { warehouse = n.warehouse.ghost_name; spares = n.spares.ghost_name; vehicles = n.vehicles.ghost_name }) n.halted n.first n.begun n.said.now.items _ _ (λ a r b x. x) c.args.lines.now c.serve.new.lines (g.W.Write.contents c.args.writer.now) (g.W.Write.contents c.serve.new.writer) tt tt
    c.in-Err.fault c.in-Err.ensures.fault c.ended.result (g.W.Write.contents c.ended.new.writer)
    (subst (λ (said : List ℕ). EndsSo c.in-Err.fault c.ended.result (g.W.Write.contents c.serve.new.writer) (g.W.Write.contents c.ended.new.writer) said) c.left.ensures c.ended.ensures)

pub returns-in-Err-clause-warehouse : goal.returns-in-Err-clause-warehouse
returns-in-Err-clause-warehouse g c =
    let m = c.args.manned.now in
    let n = c.serve.new.machine in
    ap (λ (names : Names). names.warehouse)
    (stopped_names g.P.Plans.fits_map g.P.Plans.slot_count m.warehouse.now.book m.spares.now.items m.vehicles.now m.asker (record { warehouse = m.warehouse.ghost_name; spares = m.spares.ghost_name; vehicles = m.vehicles.ghost_name }) m.halted m.first m.begun m.said.now.items c.requires.going c.requires.first c.requires.begun
    n.warehouse.now.book n.spares.now.items n.vehicles.now n.asker (record { warehouse = n.warehouse.ghost_name; spares = n.spares.ghost_name; vehicles = n.vehicles.ghost_name }) n.halted n.first n.begun n.said.now.items _ _ (λ a r b x. x) c.args.lines.now c.serve.new.lines (g.W.Write.contents c.args.writer.now) (g.W.Write.contents c.serve.new.writer) tt tt
    c.in-Err.fault c.in-Err.ensures.fault c.requires.manned.0 c.requires.manned.1)

pub returns-in-Err-clause-spares : goal.returns-in-Err-clause-spares
returns-in-Err-clause-spares g c =
    let m = c.args.manned.now in
    let n = c.serve.new.machine in
    ap (λ (names : Names). names.spares)
    (stopped_names g.P.Plans.fits_map g.P.Plans.slot_count m.warehouse.now.book m.spares.now.items m.vehicles.now m.asker (record { warehouse = m.warehouse.ghost_name; spares = m.spares.ghost_name; vehicles = m.vehicles.ghost_name }) m.halted m.first m.begun m.said.now.items c.requires.going c.requires.first c.requires.begun
    n.warehouse.now.book n.spares.now.items n.vehicles.now n.asker (record { warehouse = n.warehouse.ghost_name; spares = n.spares.ghost_name; vehicles = n.vehicles.ghost_name }) n.halted n.first n.begun n.said.now.items _ _ (λ a r b x. x) c.args.lines.now c.serve.new.lines (g.W.Write.contents c.args.writer.now) (g.W.Write.contents c.serve.new.writer) tt tt
    c.in-Err.fault c.in-Err.ensures.fault c.requires.manned.0 c.requires.manned.1)

pub returns-in-Err-clause-vehicles : goal.returns-in-Err-clause-vehicles
returns-in-Err-clause-vehicles g c =
    let m = c.args.manned.now in
    let n = c.serve.new.machine in
    ap (λ (names : Names). names.vehicles)
    (stopped_names g.P.Plans.fits_map g.P.Plans.slot_count m.warehouse.now.book m.spares.now.items m.vehicles.now m.asker (record { warehouse = m.warehouse.ghost_name; spares = m.spares.ghost_name; vehicles = m.vehicles.ghost_name }) m.halted m.first m.begun m.said.now.items c.requires.going c.requires.first c.requires.begun
    n.warehouse.now.book n.spares.now.items n.vehicles.now n.asker (record { warehouse = n.warehouse.ghost_name; spares = n.spares.ghost_name; vehicles = n.vehicles.ghost_name }) n.halted n.first n.begun n.said.now.items _ _ (λ a r b x. x) c.args.lines.now c.serve.new.lines (g.W.Write.contents c.args.writer.now) (g.W.Write.contents c.serve.new.writer) tt tt
    c.in-Err.fault c.in-Err.ensures.fault c.requires.manned.0 c.requires.manned.1)
