use Rattle.std.proofs.Common.{◌∙◌, List, map, refl, ap}
use Rattle.wh_front.specs.declared.front.Front.{Front}
use Rattle.wh_front.specs.declared.front.Seat.{Seat}
use Rattle.wh_front.specs.declared.front.Submission.{Submission}
use Rattle.wh_front.specs.declared.rules.Kind.TheVariants as kind
use Rattle.wh_handover.specs.Stopped.{stopped_submission}
use Rattle.wh_handover.proofs.Stops.{stopped_fits}
use Rattle.wh_handover.proofs.stopped.stop_front.Goals as goal

pub returns-clause-fits : goal.returns-clause-fits
returns-clause-fits c =
    let whole = c.args.whole in
    let front : Front = record { before = whole.before; rules = whole.rules; clock = whole.clock; closed = whole.closed; kind = kind.Stopped; counts = whole.counts; seats = c.in_ok-seats.seats; tasks = c.in_ok-tasks.tasks } in
    stopped_fits c.args.first c.args.steps.now whole front c.requires.fits refl refl refl refl
    (c.in_ok-seats.ensures.slots ∙ ap (λ (seats : List Seat). map (λ (seat : Seat). seat.slots) seats) c.as_slice.ensures) c.in_ok-seats.ensures.fit
    (c.in_ok-tasks.ensures ∙ ap (λ (tasks : List Submission). map (stopped_submission c.args.first c.args.steps.now) tasks) c.as_slice-2.ensures)
