use Rattle.std.proofs.Common.{◌≡◌, arith, length, rules}
use Rattle.wh_path.specs.Paths.{ends}
use Rattle.wh_state.specs.Columns.{state_in}
use Rattle.wh_state.proofs.Given.{orderly-given, sound-given, due-now}
use Rattle.wh_state.proofs.state.FleetState.of.Goals as goal

pub of-requires-3-clause-orderly : goal.of-requires-3-clause-orderly
of-requires-3-clause-orderly c = rw c.deref-6.ensures.value (orderly-given (state_in c.args.parts.now) c.requires)

pub invariant_of-result : goal.invariant_of-result
invariant_of-result c =
    let s = state_in c.args.parts.now in
    let paths : c.in_ok-paths.paths ≡ s.paths = search rules in
    let loads : c.in_ok-loads.loads.items ≡ s.loads = search rules in
    let slots : c.in_ok-slots.slots.items ≡ s.slots = search rules in
    let last : c.in_ok-tasks.tasks.ends ≡ ends s.paths = search rules in
    let tasks : c.in_ok-tasks.tasks.tasks ≡ s.tasks = search rules in
    let size : c.len.result ≡ length s.paths = omega (arith, c.len.ensures, c.args.parts.now.paths.ok.0) in
    rw (paths, loads, slots, last, tasks, c.in_ok-dues.ensures) (sound-given s c.requires, due-now s.clock s.paths s.tasks c.len.result size)
