use Rattle.std.proofs.Common.{take}
use Rattle.wh_search.specs.Frontiers.{problem}
use Rattle.wh_motion_rows.proofs.Layered.{IsSpreading}
use Rattle.wh_motion_rows.proofs.layers.Met.expand.Given as goal

abbrev pub invariant-loop-i : goal.invariant-loop-i
invariant-loop-i l = IsSpreading (problem l.errand) l.self.nodes.items l.index l.from (take l.i l.moves)
