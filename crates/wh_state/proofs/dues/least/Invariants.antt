use Rattle.std.proofs.Common.{◌≤◌, take}
use Rattle.std.specs.Prelude.{All}
use Rattle.wh_state.proofs.dues.least.Given as goal

abbrev pub invariant-loop-clock : goal.invariant-loop-clock
invariant-loop-clock l = All (λ due. l.soonest ≤ due) (take l.clock-index l.clocks)
