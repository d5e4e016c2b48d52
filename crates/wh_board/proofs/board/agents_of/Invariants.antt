use Rattle.std.proofs.Common.{◌≡◌, ℕ, length, Some, slice_get}
use Rattle.wh_board.specs.Boards.{IsShown}
use Rattle.wh_board.specs.declared.board.Shown.{Shown}
use Rattle.wh_board.proofs.board.agents_of.Given as goal

-- the agents so far are shown
abbrev pub invariant-loop-k : goal.invariant-loop-k
invariant-loop-k l = record {
  count : length l.agents.items ≡ l.k;
  each : (agent : ℕ) (shown : Shown) → slice_get l.agents.items agent ≡ Some shown → IsShown l.fn.paths l.fn.loads agent shown;
}
