use denote.Param.Send.{sendable}
use Rattle.std.proofs.Crossing.{crosses}
use Rattle.std.proofs.Common.{List, subst}
use Rattle.std.specs.Prelude.{option_map}
use Rattle.wh_event.specs.declared.entry.Entry.{Entry}
use Rattle.wh_attend.specs.Shares.{IsPacingOf}
use Rattle.wh_attend.proofs.ByOptions.{boards_by, callers_few_by, serves_clients, told_by, unserved_by}
use Rattle.wh_attend.proofs.serving.serve_all.Goals as goal

pub returns-clause-ok : goal.returns-clause-ok
returns-clause-ok g c =
    let options = c.args.options.now in
    let pace = c.pacing_of-pace.result in
    let paced : IsPacingOf options.every options c.args.warehouse.book.history pace =
    subst (λ (h : List Entry). IsPacingOf options.every options h pace) c.history.ensures.value c.pacing_of-pace.ensures in
    serves_clients c.join-came.result.1 g.P.Plans.fits_map g.P.Plans.slot_count _ _ c.args.options.now _ _ _ (λ r. r.history.warehouse.book.history) (λ r. r.history.warehouse.book.state) (λ r. r.connections.items) (λ r. r.worker)
    _ _ c.form_of-form.ensures paced c.join-came.ensures.second.0

pub returns-clause-boards : goal.returns-clause-boards
returns-clause-boards g c =
    boards_by c.join-came.result.1 _ _ (λ r. r.history.warehouse.book.history) (λ r. r.last) _ _ (λ r. option_map g.V.Screen.shown r.screen)
    (told_by g.V.Screen.shown (λ d. d.screen) c.display_of-display.result _ c.display_of-display.ensures.screen) c.join-came.ensures.second.3

pub returns-clause-fault : goal.returns-clause-fault
returns-clause-fault g c =
    unserved_by c.join-came.result.1 c.display_of-display.result (λ d. g.V.Screen.shown d.screen) _ (told_by g.V.Screen.shown (λ d. d.screen) c.display_of-display.result _ c.display_of-display.ensures.screen) c.join-came.ensures.second.4

pub join-came-requires-after_bounds : goal.join-came-requires-after_bounds
join-came-requires-after_bounds g c κs within =
    let options = c.args.options.now in
    let pace = c.pacing_of-pace.result in
    let paced : IsPacingOf options.every options c.args.warehouse.book.history pace =
    subst (λ (h : List Entry). IsPacingOf options.every options h pace) c.history.ensures.value c.pacing_of-pace.ensures in
    let p = c.type_bounds.send-P in
    let l = c.type_bounds.send-L in
    let i = c.type_bounds.send-I in
    let o = c.type_bounds.send-O in
    let v = c.type_bounds.send-V in
    let t = c.type_bounds.sync-T in
    let d = c.type_bounds.sync-D in (
      tt,
      (
        (c.requires.log, c.requires.synced, callers_few_by c.args.clients.items options.every options c.args.warehouse.book.history pace c.requires.few paced),
        (
          search (sendable, crosses) depth 30 fits 20000,
          search (sendable, crosses) depth 30 fits 20000,
          search (sendable, crosses) depth 30 fits 20000,
          search (sendable, crosses) depth 30 fits 20000,
          search (sendable, crosses) depth 30 fits 20000,
          search sendable,
          search sendable,
        ),
      ),
    )
