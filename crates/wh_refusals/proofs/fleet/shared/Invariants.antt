use Rattle.std.proofs.Common.{◌≡◌}
use Rattle.wh_refusals.proofs.fleet.shared.Given as goal

-- the grid came back
abbrev pub invariant-loop : goal.invariant-loop
invariant-loop g l = l.grid ≡ l.fn.grid
