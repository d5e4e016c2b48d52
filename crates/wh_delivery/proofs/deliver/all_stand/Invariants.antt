use Rattle.std.specs.Prelude.{◌≡◌, ℕ, ◌<◌, length}
use Rattle.wh_path.specs.Paths.{steps_left}
use Rattle.wh_delivery.proofs.deliver.all_stand.Given as goal

abbrev pub invariant-loop-agent : goal.invariant-loop-agent
invariant-loop-agent g l = record {
  first : (agent : ℕ) → agent < l.agent → steps_left l.fn.warehouse.book.state.paths agent ≡ 0;
  agents : l.agent-end ≡ length l.fn.warehouse.book.state.paths;
}
