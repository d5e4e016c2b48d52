use Rattle.std.proofs.Common.{◌∙◌, ℕ, List, ap, length}
use Rattle.std.proofs.lemmas.List.{length-replicate}
use Rattle.std.proofs.lemmas.List.{take_all}
use Rattle.wh_state.proofs.NextStops.{due-opening}
use Rattle.wh_state.proofs.StandingLemmas.{sound-opening}
use Rattle.wh_state.proofs.state.FleetState.open.Goals as goal

pub invariant_of-result : goal.invariant_of-result
invariant_of-result c =
    let all = take_all c.loop-start.start-index c.args.starts.now c.loop-start-test.false in
    let paths = rw all at c.loop-start.invariant.paths in
    let loads = rw all at c.loop-start.invariant.loads in
    rw (paths, loads, c.in_ok-tasks.ensures.ends, c.in_ok-ends.ensures, c.in_ok-tasks.ensures.tasks) (
      sound-opening c.args.clock c.args.starts.now c.args.slots.items c.requires.clock c.requires.few c.requires.seats,
      due-opening c.args.clock c.args.starts.now c.in_ok-dues.dues (ap (λ (clocks : List ℕ). length clocks) c.in_ok-dues.ensures ∙ length-replicate (length c.args.starts.now) 4294967295),
    )
