use Rattle.std.proofs.Common.{List, inl, inr, refl, ap, subst}
use Rattle.wh_dispatch.specs.declared.visits.Pending.{Pending}
use Rattle.wh_dispatch.specs.Crews.{Crew}
use Rattle.wh_dispatch.specs.Scripts.{TellsAll, TellsSome}
use Rattle.wh_dispatch.proofs.Stands.{stand_heard}
use Rattle.wh_dispatch.proofs.Texts.{on_ok, if_err}
use Rattle.wh_dispatch.proofs.line.hear.Goals as goal

pub returns-in-Err-clause-err : goal.returns-in-Err-clause-err
returns-in-Err-clause-err g c = λ d r.
    let h = c.hear-notice.ensures.drive d r in
    (h.0, record { notice = c.hear-notice.result; mid = h.0; answers = h.1; some = inl (c.in-Err.ensures.fault, refl, c.in-Err.ensures.err) })

pub returns-in-Ok-clause-ok : goal.returns-in-Ok-clause-ok
returns-in-Ok-clause-ok g c =
    on_ok c.go_on.result (λ go d r.
    let h = c.hear-notice.ensures.drive d r in
    let on = go h.0 h.2 in
    (on.0, on.1, record { notice = c.hear-notice.result; mid = h.0; answers = h.1; between = g.W.Write.contents c.tell_notice.new.writer; wrote = c.in-Ok.ensures.ok; tells = subst (λ (ps : List Pending). TellsAll c.args.warehouse.now.book ps c.go_on.new.vehicles.pending h.0 on.0 (g.W.Write.contents c.tell_notice.new.writer) (g.W.Write.contents c.go_on.new.writer)) (ap (λ (x : Crew). x.pending) c.hear-notice.ensures.others) on.2 })) c.go_on.ensures.ok

pub returns-in-Ok-clause-err : goal.returns-in-Ok-clause-err
returns-in-Ok-clause-err g c =
    if_err c.go_on.result _ _ (λ fault go d r.
    let h = c.hear-notice.ensures.drive d r in
    let on = go h.0 h.2 in
    (on.0, record { notice = c.hear-notice.result; mid = h.0; answers = h.1; some = inr (g.W.Write.contents c.tell_notice.new.writer, c.in-Ok.ensures.ok, subst (λ (ps : List Pending). TellsSome fault c.args.warehouse.now.book ps h.0 on.0 (g.W.Write.contents c.tell_notice.new.writer) (g.W.Write.contents c.go_on.new.writer)) (ap (λ (x : Crew). x.pending) c.hear-notice.ensures.others) on.1) })) c.go_on.ensures.err

pub go_on-requires : goal.go_on-requires
go_on-requires g c = record {
  stand = (let h = c.hear-notice.ensures.drive c.requires.stand.drive c.requires.stand.represents in
      stand_heard c.args.warehouse.now.book c.args.vehicles.now c.hear-notice.new.self c.args.report c.hear-notice.result c.requires.stand h.0 h.1 h.2 (ap (λ (x : Crew). x.pending) c.hear-notice.ensures.others));
}
