use Rattle.wh_search.specs.Frontiers.{problem, node_at}
use Rattle.wh_motion_rows.proofs.Trails.{IsTrail}
use Rattle.wh_motion_rows.proofs.trail.walk_back.Given as goal

abbrev pub invariant-loop-place : goal.invariant-loop-place
invariant-loop-place l = IsTrail (problem l.errand) l.nodes l.place l.trail.items (node_at l.nodes l.index)

abbrev pub decreases-loop-place : goal.decreases-loop-place
decreases-loop-place l = l.place
