use Rattle.wh_search.specs.Frontiers.{problem}
use Rattle.wh_motion_rows.specs.Layers.{IsLayered}
use Rattle.wh_motion_rows.proofs.layers.search.Given as goal

abbrev pub invariant-loop-index : goal.invariant-loop-index
invariant-loop-index l = IsLayered (problem l.errand) l.met.nodes.items l.index
