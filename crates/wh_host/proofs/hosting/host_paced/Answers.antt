use Rattle.std.proofs.Common.{◌≡◌, List, [], ◌∷◌, ◌++◌, length, sym, ap, refl, Some, slice_get, MatchBool, subst, arith}
use Rattle.std.specs.List.{All}
use Rattle.std.proofs.lemmas.List.{length_push}
use Rattle.wh_event.specs.declared.entry.Entry.{Entry}
use Rattle.wh_desk.specs.Lists.{Received, entries_of}
use Rattle.wh_desk.specs.Calls.{AllBegin, InOrder}
use Rattle.wh_desk.proofs.Entries.{get_left}
use Rattle.wh_serve.specs.Texts.{receipt_text}
use Rattle.wh_serve.specs.Rows.{Attended}
use Rattle.wh_serve.proofs.Rows.{attended_caller}
use Rattle.wh_host.proofs.Hosts.{all_served, get_before, paced_order}
use Rattle.wh_host.proofs.Turning.{paced_in}
use Rattle.wh_host.proofs.hosting.host_paced.Goals as goal

pub finish-requires : goal.finish-requires
finish-requires g c =
    let s = c.in-Ok-serve_beside.ensures in
    let left = c.in-Ok-serve_beside.shift in
    let parts : c.args.passes.items ≡ c.pop.new.self.items ++ c.in-Some.own ∷ [] = c.in-Some.ensures.items in
    let same : length c.args.clients.items ≡ length c.pop.new.self.items = omega (arith, c.requires.clients, ap length parts, length_push c.pop.new.self.items c.in-Some.own) in
    subst (λ (l : List Received). InOrder g.N.DeskName.callers l) (sym c.gather.ensures)
    (paced_order (λ (history : List Entry) d had has n. Attended (length g.N.DeskName.cells) g.P.Plans.fits_map g.P.Plans.slot_count g.N.DeskName.origin.site.grid (receipt_text c.args.form g.N.DeskName.origin history) (λ x. g.R.Read.remaining x) (λ x. g.W.Write.contents x) d had has n)
    (λ history. attended_caller (length g.N.DeskName.cells) g.P.Plans.fits_map g.P.Plans.slot_count g.N.DeskName.origin.site.grid (receipt_text c.args.form g.N.DeskName.origin history) (λ x. g.R.Read.remaining x) (λ x. g.W.Write.contents x))
    c.args.clients.items c.args.passes.items c.pop.new.self.items left.reports.passes.items left.reports.connections.items g.N.DeskName.callers c.in-Some.own left.paced.pass c.requires.passes parts same s.count.0 s.count.1 s.served
    s.turns.caller_is)

pub returns-in-Ok-finish-clause-leaves : goal.returns-in-Ok-finish-clause-leaves
returns-in-Ok-finish-clause-leaves g c =
    let s = c.in-Ok-serve_beside.ensures in
    let left = c.in-Ok-serve_beside.shift in
    let done = c.in-Ok-finish.ensures in
    let book = c.in-Ok-finish.history.warehouse.book in
    let parts : c.args.passes.items ≡ c.pop.new.self.items ++ c.in-Some.own ∷ [] = c.in-Some.ensures.items in
    let same : length c.args.clients.items ≡ length c.pop.new.self.items = omega (arith, c.requires.clients, ap length parts, length_push c.pop.new.self.items c.in-Some.own) in
    let lists = subst (λ (l : List Received). All (λ p. p.list ≡ entries_of book.history p.caller) l) c.gather.ensures done.lists in
    let begin = subst (λ (l : List Received). AllBegin book.history l) c.gather.ensures done.begin in
    record {
      opening = done.opening;
      run = done.run;
      by_callers = done.callers;
      granted = done.served;
      within = done.within;
      served = all_served (λ (history : List Entry) d had has n. Attended (length g.N.DeskName.cells) g.P.Plans.fits_map g.P.Plans.slot_count g.N.DeskName.origin.site.grid (receipt_text c.args.form g.N.DeskName.origin history) (λ x. g.R.Read.remaining x) (λ x. g.W.Write.contents x) d had has n)
          (λ history. attended_caller (length g.N.DeskName.cells) g.P.Plans.fits_map g.P.Plans.slot_count g.N.DeskName.origin.site.grid (receipt_text c.args.form g.N.DeskName.origin history) (λ x. g.R.Read.remaining x) (λ x. g.W.Write.contents x))
          c.args.clients.items c.pop.new.self.items left.reports.passes.items left.reports.connections.items book.history c.args.passes.items (left.reports.passes.items ++ left.paced.pass ∷ [])
          c.requires.passes.each
          (λ k p less at. get_before c.pop.new.self.items c.in-Some.own p k (omega (arith, less, same)) (subst (λ (l : List Received). slice_get l k ≡ Some p) parts at))
          (λ k p at. get_left left.reports.passes.items (left.paced.pass ∷ []) k p at)
          s.count.0 s.count.1 s.served lists begin;
      paced = paced_in (length g.N.DeskName.cells) c.args.pace (length c.args.clients.items) g.N.DeskName.origin book.history c.args.passes.items c.pop.new.self.items left.reports.passes.items c.in-Some.own left.paced.pass left.paced.ended
          parts same s.turns lists begin;
    }
