use Rattle.wh_state.proofs.NextStops.{due-submitted}
use Rattle.wh_state.proofs.StandingLemmas.{sound-submitted}
use Rattle.wh_state.proofs.state.FleetState.submit.Goals as goal

pub invariant_of-self : goal.invariant_of-self
invariant_of-self c =
    let f = c.self.inside in
    rw (c.submit.ensures.tasks, c.submit.ensures.ends) (
      sound-submitted f.clock f.paths f.tasks.ends f.loads.items f.slots.items f.tasks.tasks c.args.client c.args.stops c.self.invariant.0,
      due-submitted f.clock f.paths f.tasks.tasks f.dues c.args.client c.args.stops c.self.invariant.1,
    )
