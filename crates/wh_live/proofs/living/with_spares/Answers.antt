use Rattle.std.proofs.Common.{[], ◌∷◌, ◌++◌, ◌∙◌, ap, append_assoc, refl, sym}
use Rattle.std.specs.Vec.Iter.{into_iter_items}
use Rattle.wh_edge.specs.declared.work.Work.{Work}
use Rattle.wh_live.proofs.Hosted.{commands_added, spares_added}
use Rattle.wh_live.proofs.living.with_spares.Goals as goal

pub loop-client-preserved : goal.loop-client-preserved
loop-client-preserved g c =
    let works = c.loop-client.works.items in
    let done = c.loop-client.yielded in
    let work : Work g.row.P.Denot = record { commands = c.in-Some.client.commands; spares = c.in_ok-spares.spares } in
    let left = into_iter_items c.next.new.self in
    record {
      seat = c.members.ensures.seat;
      order = append_assoc done (c.in-Some.client ∷ []) left ∙ ap (λ l. done ++ l) (sym c.in-Some.ensures.steps.0) ∙ c.loop-client.invariant.order;
      commands = commands_added works _ done work c.in-Some.client c.in_ok-push.ensures.items c.loop-client.invariant.commands refl;
      spares = spares_added works _ work c.in_ok-push.ensures.items c.loop-client.invariant.spares c.in_ok-spares.ensures.count c.in_ok-spares.ensures.members;
    }
