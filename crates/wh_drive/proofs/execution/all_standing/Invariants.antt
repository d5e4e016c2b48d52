use Rattle.std.proofs.Common.{◌≡◌, map, take}
use Rattle.wh_drive.proofs.execution.all_standing.Given as goal

abbrev pub invariant-loop-start : goal.invariant-loop-start
invariant-loop-start l = l.vehicles.items ≡ map (λ _. record { reached = 0; told = 0 }) (take l.start-index l.starts)
