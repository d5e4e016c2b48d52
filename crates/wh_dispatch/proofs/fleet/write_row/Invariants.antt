use Rattle.std.proofs.Common.{◌≡◌, ℕ, ◌<◌, length}
use Rattle.wh_path.specs.Paths.{cell_at, place_of}
use Rattle.wh_dispatch.proofs.fleet.write_row.Given as goal

abbrev pub invariant-loop-agent : goal.invariant-loop-agent
invariant-loop-agent g l = record {
  many : length l.row.items ≡ length l.warehouse.book.state.paths;
  there : (k : ℕ) → k < l.agent → cell_at l.row.items k ≡ place_of l.warehouse.book.state.paths k;
}
