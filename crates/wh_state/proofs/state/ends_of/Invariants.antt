use Rattle.std.proofs.Common.{◌≡◌, take}
use Rattle.wh_path.specs.Paths.{ends}
use Rattle.wh_state.proofs.state.ends_of.Given as goal

abbrev pub invariant-loop-path : goal.invariant-loop-path
invariant-loop-path l = l.cells.items ≡ ends (take l.path-index l.paths)
