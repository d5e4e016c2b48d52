use Rattle.std.proofs.Common.{◌≡◌, drop}
use Rattle.wh_crew.specs.Turns.{moves}
use Rattle.wh_crew.proofs.turns.moves.Given as goal

-- none of the agents so far has steps left
abbrev pub invariant-loop-shown : goal.invariant-loop-shown
invariant-loop-shown l = moves l.fn.agents ≡ moves (drop l.shown-index l.fn.agents)
