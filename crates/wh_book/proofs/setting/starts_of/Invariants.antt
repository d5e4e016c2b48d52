use Rattle.std.proofs.Common.{◌≡◌, map, take}
use Rattle.wh_points.specs.Points.{point_at}
use Rattle.wh_book.proofs.setting.starts_of.Given as goal

abbrev pub invariant-loop-agent : goal.invariant-loop-agent
invariant-loop-agent l = l.cells.items ≡ map (λ n. (point_at l.points n).cell) (take l.agent-index l.agents)
