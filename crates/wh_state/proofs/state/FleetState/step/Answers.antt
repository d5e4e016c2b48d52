use Rattle.wh_state.proofs.NextStops.{due-moved}
use Rattle.wh_state.proofs.StandingLemmas.{sound-moved}
use Rattle.wh_state.proofs.state.FleetState.step.Goals as goal

pub invariant_of-self : goal.invariant_of-self
invariant_of-self c =
    let f = c.self.inside in
    rw c.tick.ensures (
      sound-moved f.clock f.paths f.tasks.ends f.loads.items f.slots.items f.tasks.tasks (rw (← c.self.view_is) at c.requires) c.self.invariant.0,
      due-moved f.clock f.paths f.tasks.tasks f.dues c.self.invariant.1,
    )
