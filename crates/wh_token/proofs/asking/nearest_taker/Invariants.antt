use Rattle.std.specs.Prelude.{◌≡◌, length}
use Rattle.wh_token.specs.Asking.{IsAmong, IsNearestTaker}
use Rattle.wh_token.proofs.asking.nearest_taker.Given as goal

abbrev pub invariant-loop-agent : goal.invariant-loop-agent
invariant-loop-agent l = record {
  best : IsNearestTaker l.fn.book.site l.fn.book.state (IsAmong l.fn.asked l.agent) l.best;
  over : l.near.grid ≡ l.fn.near.grid;
  agents : l.agents ≡ length l.fn.asked;
}
