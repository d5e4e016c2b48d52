use Rattle.std.proofs.Common.{◌≡◌, ◌∷◌, [], map, take}
use Rattle.wh_tasks.specs.declared.task.Load.{Load}
use Rattle.wh_state.proofs.state.FleetState.open.Given as goal

abbrev pub invariant-loop-start : goal.invariant-loop-start
invariant-loop-start l = record {
  paths : l.paths ≡ map (λ cell. cell ∷ []) (take l.start-index l.starts);
  loads : l.loads.items ≡ map (λ _. Load.None) (take l.start-index l.starts);
}
