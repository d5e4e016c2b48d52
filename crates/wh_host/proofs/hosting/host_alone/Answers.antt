use Rattle.std.proofs.Common.{List, length}
use Rattle.wh_event.specs.declared.entry.Entry.{Entry}
use Rattle.wh_serve.specs.Texts.{receipt_text}
use Rattle.wh_serve.specs.Rows.{Attended}
use Rattle.wh_serve.proofs.Rows.{attended_caller}
use Rattle.wh_host.proofs.Hosts.{all_served, ended_order}
use Rattle.wh_host.proofs.hosting.host_alone.Goals as goal

pub finish-requires : goal.finish-requires
finish-requires g c =
    let s = c.in_ok-ended.ensures in
    ended_order (λ (history : List Entry) d had has n. Attended (length g.N.DeskName.cells) g.P.Plans.fits_map g.P.Plans.slot_count g.N.DeskName.origin.site.grid (receipt_text c.args.form g.N.DeskName.origin history) (λ x. g.R.Read.remaining x) (λ x. g.W.Write.contents x) d had has n)
    (λ history. attended_caller (length g.N.DeskName.cells) g.P.Plans.fits_map g.P.Plans.slot_count g.N.DeskName.origin.site.grid (receipt_text c.args.form g.N.DeskName.origin history) (λ x. g.R.Read.remaining x) (λ x. g.W.Write.contents x))
    c.args.clients.items c.args.passes.items c.in_ok-ended.field-0.passes.items c.in_ok-ended.field-0.connections.items g.N.DeskName.callers c.requires.passes c.requires.clients s.count.0 s.count.1 s.served

pub returns-in-Ok-clause-leaves : goal.returns-in-Ok-clause-leaves
returns-in-Ok-clause-leaves g c =
    let s = c.in_ok-ended.ensures in
    let done = c.in-Ok.ensures in
    record {
      opening = done.opening;
      run = done.run;
      by_callers = done.callers;
      granted = done.served;
      within = done.within;
      served = all_served (λ (history : List Entry) d had has n. Attended (length g.N.DeskName.cells) g.P.Plans.fits_map g.P.Plans.slot_count g.N.DeskName.origin.site.grid (receipt_text c.args.form g.N.DeskName.origin history) (λ x. g.R.Read.remaining x) (λ x. g.W.Write.contents x) d had has n)
          (λ history. attended_caller (length g.N.DeskName.cells) g.P.Plans.fits_map g.P.Plans.slot_count g.N.DeskName.origin.site.grid (receipt_text c.args.form g.N.DeskName.origin history) (λ x. g.R.Read.remaining x) (λ x. g.W.Write.contents x))
          c.args.clients.items c.args.passes.items c.in_ok-ended.field-0.passes.items c.in_ok-ended.field-0.connections.items c.in-Ok.history.warehouse.book.history c.args.passes.items c.in_ok-ended.field-0.passes.items
          c.requires.passes.each (λ k p less at. at) (λ k p at. at) s.count.0 s.count.1 s.served done.lists done.begin;
      paced = tt;
    }
