use Rattle.std.proofs.Common.{◌≡◌, ◌+◌, drop}
use Rattle.wh_dispatch.specs.Visiting.{made_first}
use Rattle.wh_dispatch.proofs.visits.made_from.Given as goal

abbrev pub invariant-loop-clock : goal.invariant-loop-clock
invariant-loop-clock l = record {
  here : l.made ≡ l.before + l.clock-index;
  rest : l.clock-index + made_first l.opening l.reached (drop l.clock-index l.clocks) ≡ made_first l.opening l.reached l.clocks;
}
