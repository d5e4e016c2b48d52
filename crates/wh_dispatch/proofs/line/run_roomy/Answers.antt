use Rattle.std.proofs.Common.{◌∙◌, List, length, inr, ap, sym}
use Rattle.wh_event.specs.declared.entry.Entry.{Entry}
use Rattle.wh_dispatch.specs.Crews.{Crew}
use Rattle.wh_dispatch.proofs.Texts.{on_ok, if_err}
use Rattle.wh_dispatch.proofs.Serving.{from_unwritten, from_still, from_gone, from_gone_some, stand_gone, still_rep}
use Rattle.wh_dispatch.proofs.Taking.{few_entries, kept_same}
use Rattle.wh_dispatch.proofs.line.run_roomy.Goals as goal

pub returns-in-Err-clause-err : goal.returns-in-Err-clause-err
returns-in-Err-clause-err g c =
    from_unwritten g.P.Plans.fits_map g.P.Plans.slot_count c.args.asker c.args.vehicles.now.bound c.args.command.now _ _ c.args.vehicles.now _ _ _ _
    (λ d m asks. absurd (c.requires.still asks)) c.in-Err.ensures.err

pub returns-else-keep_taken-clause-ok : goal.returns-else-keep_taken-clause-ok
returns-else-keep_taken-clause-ok g c =
    let gives = c.in-Ok.ensures.ok.gives in
    let few = few_entries g.P.Plans.fits_map g.P.Plans.slot_count c.args.asker.caller c.args.warehouse.now.book.site c.args.command.now gives.outcomes _ _ _ _ gives.ran in
    let kept = c.keep_taken.ensures.pending c.args.warehouse.now.book.history _ gives.history (ap (λ (es : List Entry). length es) (sym c.history-before.ensures.value)) few in
    let order = ap (λ (x : Crew). x.order) c.keep_taken.ensures.same in
    let none = c.keep_taken.ensures.none c.if-keep_taken.false c.args.warehouse.now.book.history _ gives.history (ap (λ (es : List Entry). length es) (sym c.history-before.ensures.value)) few in
    from_still g.P.Plans.fits_map g.P.Plans.slot_count c.args.asker c.args.vehicles.now.bound c.args.command.now c.args.warehouse.now.book c.args.spares.now.items c.args.vehicles.now
    c.obey.new.warehouse.book c.obey.new.spares.items (g.W.Write.contents c.args.writer.now) (g.W.Write.contents c.obey.new.writer) c.in-Ok.field-0
    (λ d m asks. absurd (c.requires.still asks)) c.in-Ok.ensures.ok c.keep_taken.new.self order (kept_same c.args.vehicles.now.pending _ _ kept none) none (inr c.requires.still)

pub go_on-requires : goal.go_on-requires
go_on-requires g c = record {
  stand = (let gives = c.in-Ok.ensures.ok.gives in
      let few = few_entries g.P.Plans.fits_map g.P.Plans.slot_count c.args.asker.caller c.args.warehouse.now.book.site c.args.command.now gives.outcomes _ _ _ _ gives.ran in
      let kept = c.keep_taken.ensures.pending c.args.warehouse.now.book.history _ gives.history (ap (λ (es : List Entry). length es) (sym c.history-before.ensures.value)) few in
      let order = ap (λ (x : Crew). x.order) c.keep_taken.ensures.same in
      stand_gone g.P.Plans.fits_map g.P.Plans.slot_count c.args.asker c.args.vehicles.now.bound c.args.command.now c.args.warehouse.now.book c.args.spares.now.items c.args.vehicles.now
      c.obey.new.warehouse.book c.obey.new.spares.items (g.W.Write.contents c.args.writer.now) (g.W.Write.contents c.obey.new.writer) c.in-Ok.field-0
      (λ d m asks. absurd (c.requires.still asks)) c.in-Ok.ensures.ok c.keep_taken.new.self kept (still_rep g.P.Plans.fits_map g.P.Plans.slot_count c.args.asker c.args.vehicles.now.bound c.args.command.now c.args.warehouse.now.book c.args.spares.now.items c.args.vehicles.now
      c.obey.new.warehouse.book c.obey.new.spares.items (g.W.Write.contents c.args.writer.now) (g.W.Write.contents c.obey.new.writer) c.in-Ok.field-0
      (λ d m asks. absurd (c.requires.still asks)) c.in-Ok.ensures.ok c.keep_taken.new.self order (inr c.requires.still)) c.requires.manned);
}

pub returns-then-keep_taken-clause-ok : goal.returns-then-keep_taken-clause-ok
returns-then-keep_taken-clause-ok g c =
    let gives = c.in-Ok.ensures.ok.gives in
    let few = few_entries g.P.Plans.fits_map g.P.Plans.slot_count c.args.asker.caller c.args.warehouse.now.book.site c.args.command.now gives.outcomes _ _ _ _ gives.ran in
    let kept = c.keep_taken.ensures.pending c.args.warehouse.now.book.history _ gives.history (ap (λ (es : List Entry). length es) (sym c.history-before.ensures.value)) few in
    let order = ap (λ (x : Crew). x.order) c.keep_taken.ensures.same in
    on_ok c.go_on.result (λ go. from_gone g.P.Plans.fits_map g.P.Plans.slot_count c.args.asker c.args.vehicles.now.bound c.args.command.now c.args.warehouse.now.book c.args.spares.now.items c.args.vehicles.now
    c.obey.new.warehouse.book c.obey.new.spares.items (g.W.Write.contents c.args.writer.now) (g.W.Write.contents c.obey.new.writer) c.in-Ok.field-0
    (λ d m asks. absurd (c.requires.still asks)) c.in-Ok.ensures.ok c.keep_taken.new.self kept (still_rep g.P.Plans.fits_map g.P.Plans.slot_count c.args.asker c.args.vehicles.now.bound c.args.command.now c.args.warehouse.now.book c.args.spares.now.items c.args.vehicles.now
    c.obey.new.warehouse.book c.obey.new.spares.items (g.W.Write.contents c.args.writer.now) (g.W.Write.contents c.obey.new.writer) c.in-Ok.field-0
    (λ d m asks. absurd (c.requires.still asks)) c.in-Ok.ensures.ok c.keep_taken.new.self order (inr c.requires.still)) c.go_on.new.vehicles (g.W.Write.contents c.go_on.new.writer) go) c.go_on.ensures.ok

pub returns-then-keep_taken-clause-err : goal.returns-then-keep_taken-clause-err
returns-then-keep_taken-clause-err g c =
    let gives = c.in-Ok.ensures.ok.gives in
    let few = few_entries g.P.Plans.fits_map g.P.Plans.slot_count c.args.asker.caller c.args.warehouse.now.book.site c.args.command.now gives.outcomes _ _ _ _ gives.ran in
    let kept = c.keep_taken.ensures.pending c.args.warehouse.now.book.history _ gives.history (ap (λ (es : List Entry). length es) (sym c.history-before.ensures.value)) few in
    let order = ap (λ (x : Crew). x.order) c.keep_taken.ensures.same in
    if_err c.go_on.result _ _ (λ fault go. from_gone_some g.P.Plans.fits_map g.P.Plans.slot_count c.args.asker c.args.vehicles.now.bound c.args.command.now c.args.warehouse.now.book c.args.spares.now.items c.args.vehicles.now
    c.obey.new.warehouse.book c.obey.new.spares.items (g.W.Write.contents c.args.writer.now) (g.W.Write.contents c.obey.new.writer) c.in-Ok.field-0
    (λ d m asks. absurd (c.requires.still asks)) c.in-Ok.ensures.ok c.keep_taken.new.self kept (still_rep g.P.Plans.fits_map g.P.Plans.slot_count c.args.asker c.args.vehicles.now.bound c.args.command.now c.args.warehouse.now.book c.args.spares.now.items c.args.vehicles.now
    c.obey.new.warehouse.book c.obey.new.spares.items (g.W.Write.contents c.args.writer.now) (g.W.Write.contents c.obey.new.writer) c.in-Ok.field-0
    (λ d m asks. absurd (c.requires.still asks)) c.in-Ok.ensures.ok c.keep_taken.new.self order (inr c.requires.still)) fault (g.W.Write.contents c.go_on.new.writer) go) c.go_on.ensures.err
