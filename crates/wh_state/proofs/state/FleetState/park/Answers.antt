use Rattle.wh_state.proofs.StandingLemmas.{sound-adopted}
use Rattle.wh_state.proofs.state.FleetState.park.Goals as goal

pub invariant_of-self : goal.invariant_of-self
invariant_of-self c =
    let f = c.self.inside in (
      rw (c.adopt.ensures.paths, c.adopt.ensures.ends, c.adopt.ensures.tasks) (sound-adopted f.clock f.paths f.tasks.ends f.loads.items f.slots.items f.tasks.tasks c.args.agent c.args.path c.self.invariant.0),
      rw c.paths.ensures at c.note_due.ensures,
    )
