use Rattle.std.proofs.Common.{◌≢◌, ◌<◌, ◌+◌, ◌≤◌, ℕ}
use Rattle.wh_path.specs.Paths.{cell_at}
use Rattle.wh_state.proofs.coming.comes_at.Given as goal

abbrev pub invariant-loop-here : goal.invariant-loop-here
invariant-loop-here l = record {
  soon : l.due ≤ l.clock + l.here-index;
  before : (k : ℕ) → k < l.here-index → cell_at l.path k ≢ l.cell;
}
