use Rattle.std.proofs.Common.{◌≡◌, ℕ, ◌<◌}
use Rattle.wh_points.specs.declared.points.Kind.{Kind}
use Rattle.wh_edge.specs.Site.{start_of}
use Rattle.wh_edge.proofs.site.first_not_parked.Given as goal

abbrev pub invariant-loop-agent : goal.invariant-loop-agent
invariant-loop-agent l = (earlier : ℕ) → earlier < l.agent → start_of l.points earlier ≡ Kind.Parking
