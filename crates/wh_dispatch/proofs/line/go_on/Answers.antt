use Rattle.std.proofs.Common.{List, sym, subst, ap}
use Rattle.wh_order.specs.Orders.{Order}
use Rattle.wh_order.specs.Orders as orders
use Rattle.wh_dispatch.specs.declared.visits.Pending.{Pending}
use Rattle.wh_dispatch.specs.Crews.{Crew}
use Rattle.wh_dispatch.specs.Scripts.{TellsAll, TellsSome}
use Rattle.wh_dispatch.proofs.Texts.{on_ok, on_fault, both}
use Rattle.wh_dispatch.proofs.Serving.{tells_all, tells_some, tells_none}
use Rattle.wh_dispatch.proofs.Stands.{stand_settled}
use Rattle.wh_dispatch.proofs.line.go_on.Goals as goal

pub tell_gone-requires : goal.tell_gone-requires
tell_gone-requires g c = record { stand = (stand_settled c.args.warehouse.now.book c.args.vehicles.now c.settle.new.self c.requires.stand (c.in-Ok.ensures.drive c.requires.stand.drive c.requires.stand.represents) c.settle.ensures.pending) }

pub returns-in-Ok-clause-ok : goal.returns-in-Ok-clause-ok
returns-in-Ok-clause-ok g c =
    let a = g.W.Write.contents c.args.writer.now in
    let b = g.W.Write.contents c.tell_gone.new.writer in
    let book = c.args.warehouse.now.book in
    let mid = c.settle.new.self in
    on_ok c.tell_gone.result (λ did d r.
    let s = c.in-Ok.ensures.drive d r in (
      s.end,
      subst (λ (o : Order). orders.Represents o s.end) (sym (ap (λ (x : Crew). x.order) c.tell_gone.ensures.same)) s.represents,
      subst (λ (ps : List Pending). TellsAll book ps c.tell_gone.new.vehicles.pending d s.end a b) c.settle.ensures.pending
          (tells_all book mid.pending c.tell_gone.new.vehicles.pending d mid.order mid.told a b s c.in-Ok.ensures.quiet did.1 did.0),
    )) (both c.tell_gone.result _ _ c.tell_gone.ensures.ok c.tell_gone.ensures.left)

pub returns-in-Ok-clause-err : goal.returns-in-Ok-clause-err
returns-in-Ok-clause-err g c =
    let a = g.W.Write.contents c.args.writer.now in
    let b = g.W.Write.contents c.tell_gone.new.writer in
    let book = c.args.warehouse.now.book in
    let mid = c.settle.new.self in
    on_fault c.tell_gone.result _ _ (λ fault is w d r.
    let s = c.in-Ok.ensures.drive d r in (
      s.end,
      subst (λ (ps : List Pending). TellsSome fault book ps d s.end a b) c.settle.ensures.pending (tells_some fault book mid.pending d mid.order mid.told a b s is w),
    )) c.tell_gone.ensures.fault c.tell_gone.ensures.err

pub returns-in-Err-clause-err : goal.returns-in-Err-clause-err
returns-in-Err-clause-err g c = λ d r. (d, tells_none c.args.warehouse.now.book c.args.vehicles.now.pending d (g.W.Write.contents c.args.writer.now))
