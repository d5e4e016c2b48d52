use Rattle.std.proofs.Common.{◌≡◌, ◌≢◌, inl, refl, arith}
use Rattle.wh_dispatch.proofs.Texts.{on_ok, if_err}
use Rattle.wh_dispatch.proofs.Late.{keep_up}
use Rattle.wh_dispatch.proofs.Serving.{differ_now, from_unwritten, from_still, none_asked, from_gone, from_gone_some, stand_gone, ticked_kept, ticked_rep}
use Rattle.wh_dispatch.proofs.line.tick.Goals as goal

pub returns-in-Err-clause-err : goal.returns-in-Err-clause-err
returns-in-Err-clause-err g c =
    from_unwritten g.P.Plans.fits_map g.P.Plans.slot_count c.args.asker c.args.vehicles.now.bound c.args.command.now _ _ c.args.vehicles.now _ _ _ _
    (λ d m asks. keep_up c.args.vehicles.now.order c.args.vehicles.now.bound d m.in_step.represents c.requires.keep_up) c.in-Err.ensures.err

pub returns-then-clock-before-clause-ok : goal.returns-then-clock-before-clause-ok
returns-then-clock-before-clause-ok g c =
    let here = c.clock.ensures.value in
    let was = c.clock-before.ensures.value in
    let test = c.if-clock-before.true in
    let same : c.obey.new.warehouse.book.state.clock ≡ c.args.warehouse.now.book.state.clock = omega arith in
    from_still g.P.Plans.fits_map g.P.Plans.slot_count c.args.asker c.args.vehicles.now.bound c.args.command.now _ _ c.args.vehicles.now _ _ _ _ _
    (λ d m asks. keep_up c.args.vehicles.now.order c.args.vehicles.now.bound d m.in_step.represents c.requires.keep_up) c.in-Ok.ensures.ok c.args.vehicles.now refl refl
    (none_asked g.P.Plans.fits_map g.P.Plans.slot_count c.args.asker c.args.vehicles.now.bound c.args.command.now _ _ c.args.vehicles.now _ _ _ _ _
    (λ d m asks. keep_up c.args.vehicles.now.order c.args.vehicles.now.bound d m.in_step.represents c.requires.keep_up) c.in-Ok.ensures.ok c.requires.asks) (inl same)

pub tick-requires-clause-differ : goal.tick-requires-clause-differ
tick-requires-clause-differ g c =
    let here = c.clock.ensures.value in
    let was = c.clock-before.ensures.value in
    let test = c.if-clock-before.false in
    let moved : c.obey.new.warehouse.book.state.clock ≢ c.args.warehouse.now.book.state.clock = λ e. omega arith in
    differ_now g.P.Plans.fits_map g.P.Plans.slot_count c.args.asker c.args.vehicles.now.bound c.args.command.now c.args.warehouse.now.book c.args.spares.now.items c.args.vehicles.now c.obey.new.warehouse.book c.obey.new.spares.items _ _ _
    c.requires.manned c.in-Ok.ensures.ok moved

pub go_on-requires : goal.go_on-requires
go_on-requires g c = record {
  stand = (let here = c.clock.ensures.value in
      let was = c.clock-before.ensures.value in
      let test = c.if-clock-before.false in
      let moved : c.obey.new.warehouse.book.state.clock ≢ c.args.warehouse.now.book.state.clock = λ e. omega arith in
      let kept = ticked_kept g.P.Plans.fits_map g.P.Plans.slot_count c.args.asker c.args.vehicles.now.bound c.args.command.now c.args.warehouse.now.book c.args.spares.now.items c.args.vehicles.now
      c.obey.new.warehouse.book c.obey.new.spares.items (g.W.Write.contents c.args.writer.now) (g.W.Write.contents c.obey.new.writer) c.in-Ok.field-0
      (λ d m asks. keep_up c.args.vehicles.now.order c.args.vehicles.now.bound d m.in_step.represents c.requires.keep_up) c.in-Ok.ensures.ok c.tick.new.self c.tick.ensures.pending c.requires.asks moved c.tick.ensures.drive in
      let rep = ticked_rep g.P.Plans.fits_map g.P.Plans.slot_count c.args.asker c.args.vehicles.now.bound c.args.command.now c.args.warehouse.now.book c.args.spares.now.items c.args.vehicles.now
      c.obey.new.warehouse.book c.obey.new.spares.items (g.W.Write.contents c.args.writer.now) (g.W.Write.contents c.obey.new.writer) c.in-Ok.field-0
      (λ d m asks. keep_up c.args.vehicles.now.order c.args.vehicles.now.bound d m.in_step.represents c.requires.keep_up) c.in-Ok.ensures.ok c.tick.new.self c.tick.ensures.pending c.requires.asks moved c.tick.ensures.drive in
      stand_gone g.P.Plans.fits_map g.P.Plans.slot_count c.args.asker c.args.vehicles.now.bound c.args.command.now c.args.warehouse.now.book c.args.spares.now.items c.args.vehicles.now
      c.obey.new.warehouse.book c.obey.new.spares.items (g.W.Write.contents c.args.writer.now) (g.W.Write.contents c.obey.new.writer) c.in-Ok.field-0
      (λ d m asks. keep_up c.args.vehicles.now.order c.args.vehicles.now.bound d m.in_step.represents c.requires.keep_up) c.in-Ok.ensures.ok c.tick.new.self kept rep c.requires.manned);
}

pub returns-clause-ok : goal.returns-clause-ok
returns-clause-ok g c =
    let here = c.clock.ensures.value in
    let was = c.clock-before.ensures.value in
    let test = c.if-clock-before.false in
    let moved : c.obey.new.warehouse.book.state.clock ≢ c.args.warehouse.now.book.state.clock = λ e. omega arith in
    let kept = ticked_kept g.P.Plans.fits_map g.P.Plans.slot_count c.args.asker c.args.vehicles.now.bound c.args.command.now c.args.warehouse.now.book c.args.spares.now.items c.args.vehicles.now
    c.obey.new.warehouse.book c.obey.new.spares.items (g.W.Write.contents c.args.writer.now) (g.W.Write.contents c.obey.new.writer) c.in-Ok.field-0
    (λ d m asks. keep_up c.args.vehicles.now.order c.args.vehicles.now.bound d m.in_step.represents c.requires.keep_up) c.in-Ok.ensures.ok c.tick.new.self c.tick.ensures.pending c.requires.asks moved c.tick.ensures.drive in
    let rep = ticked_rep g.P.Plans.fits_map g.P.Plans.slot_count c.args.asker c.args.vehicles.now.bound c.args.command.now c.args.warehouse.now.book c.args.spares.now.items c.args.vehicles.now
    c.obey.new.warehouse.book c.obey.new.spares.items (g.W.Write.contents c.args.writer.now) (g.W.Write.contents c.obey.new.writer) c.in-Ok.field-0
    (λ d m asks. keep_up c.args.vehicles.now.order c.args.vehicles.now.bound d m.in_step.represents c.requires.keep_up) c.in-Ok.ensures.ok c.tick.new.self c.tick.ensures.pending c.requires.asks moved c.tick.ensures.drive in
    on_ok c.go_on.result (λ go. from_gone g.P.Plans.fits_map g.P.Plans.slot_count c.args.asker c.args.vehicles.now.bound c.args.command.now c.args.warehouse.now.book c.args.spares.now.items c.args.vehicles.now
    c.obey.new.warehouse.book c.obey.new.spares.items (g.W.Write.contents c.args.writer.now) (g.W.Write.contents c.obey.new.writer) c.in-Ok.field-0
    (λ d m asks. keep_up c.args.vehicles.now.order c.args.vehicles.now.bound d m.in_step.represents c.requires.keep_up) c.in-Ok.ensures.ok c.tick.new.self kept rep c.go_on.new.vehicles (g.W.Write.contents c.go_on.new.writer) go) c.go_on.ensures.ok

pub returns-clause-err : goal.returns-clause-err
returns-clause-err g c =
    let here = c.clock.ensures.value in
    let was = c.clock-before.ensures.value in
    let test = c.if-clock-before.false in
    let moved : c.obey.new.warehouse.book.state.clock ≢ c.args.warehouse.now.book.state.clock = λ e. omega arith in
    let kept = ticked_kept g.P.Plans.fits_map g.P.Plans.slot_count c.args.asker c.args.vehicles.now.bound c.args.command.now c.args.warehouse.now.book c.args.spares.now.items c.args.vehicles.now
    c.obey.new.warehouse.book c.obey.new.spares.items (g.W.Write.contents c.args.writer.now) (g.W.Write.contents c.obey.new.writer) c.in-Ok.field-0
    (λ d m asks. keep_up c.args.vehicles.now.order c.args.vehicles.now.bound d m.in_step.represents c.requires.keep_up) c.in-Ok.ensures.ok c.tick.new.self c.tick.ensures.pending c.requires.asks moved c.tick.ensures.drive in
    let rep = ticked_rep g.P.Plans.fits_map g.P.Plans.slot_count c.args.asker c.args.vehicles.now.bound c.args.command.now c.args.warehouse.now.book c.args.spares.now.items c.args.vehicles.now
    c.obey.new.warehouse.book c.obey.new.spares.items (g.W.Write.contents c.args.writer.now) (g.W.Write.contents c.obey.new.writer) c.in-Ok.field-0
    (λ d m asks. keep_up c.args.vehicles.now.order c.args.vehicles.now.bound d m.in_step.represents c.requires.keep_up) c.in-Ok.ensures.ok c.tick.new.self c.tick.ensures.pending c.requires.asks moved c.tick.ensures.drive in
    if_err c.go_on.result _ _ (λ fault go. from_gone_some g.P.Plans.fits_map g.P.Plans.slot_count c.args.asker c.args.vehicles.now.bound c.args.command.now c.args.warehouse.now.book c.args.spares.now.items c.args.vehicles.now
    c.obey.new.warehouse.book c.obey.new.spares.items (g.W.Write.contents c.args.writer.now) (g.W.Write.contents c.obey.new.writer) c.in-Ok.field-0
    (λ d m asks. keep_up c.args.vehicles.now.order c.args.vehicles.now.bound d m.in_step.represents c.requires.keep_up) c.in-Ok.ensures.ok c.tick.new.self kept rep fault (g.W.Write.contents c.go_on.new.writer) go) c.go_on.ensures.err
