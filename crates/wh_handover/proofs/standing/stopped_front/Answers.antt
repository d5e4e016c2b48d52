use Rattle.std.proofs.Common.{◌∙◌, sym, ap}
use Rattle.wh_core.specs.States.{State}
use Rattle.wh_handover.proofs.Standings.{seats_told, stopped_is}
use Rattle.wh_handover.proofs.standing.stopped_front.Goals as goal

pub stop_front-requires-clause-each : goal.stop_front-requires-clause-each
stop_front-requires-clause-each c =
    let book = c.args.resumed.now.book in
    c.requires.each ∙ sym (seats_told book.site c.args.text.now c.in-Ok.whole book.opening book.history book.state c.in-Ok.ensures.ok.0 c.history-history.ensures.opening c.history-history.ensures.run)

pub stop_front-requires-clause-fits : goal.stop_front-requires-clause-fits
stop_front-requires-clause-fits c = c.in-Ok.ensures.ok.0.fits

pub returns-in-Ok-stop_front-clause-ok : goal.returns-in-Ok-stop_front-clause-ok
returns-in-Ok-stop_front-clause-ok c =
    let book = c.args.resumed.now.book in
    stopped_is book.site c.args.text.now c.args.places.now c.args.steps.now c.first_clock.result c.in-Ok.whole c.in-Ok-stop_front.front c.in-Ok.ensures.ok.0 c.in-Ok-stop_front.ensures.is
    (c.first_clock.ensures ∙ ap (λ (s : State). s.clock) (sym c.in-Ok.ensures.ok.1)) c.in-Ok-stop_front.ensures.fits
