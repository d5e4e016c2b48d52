use Rattle.std.specs.Prelude.{◌≡◌, length}
use Rattle.wh_token.specs.Asking.{IsAmong, AllWouldRest}
use Rattle.wh_token.proofs.asking.first_in_way.Given as goal

abbrev pub invariant-loop-agent : goal.invariant-loop-agent
invariant-loop-agent l = record {
  rest : AllWouldRest l.fn.book.site l.fn.book.state (IsAmong l.fn.asked l.agent);
  agents : l.agents ≡ length l.fn.asked;
}
