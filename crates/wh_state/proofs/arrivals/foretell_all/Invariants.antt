use Rattle.std.proofs.Common.{◌+◌, map}
use Rattle.wh_path.specs.Paths.{place_of, advanced}
use Rattle.wh_state.proofs.Foretelling.{IsForetelling}
use Rattle.wh_state.proofs.arrivals.foretell_all.Given as goal

abbrev pub invariant-loop-agent : goal.invariant-loop-agent
invariant-loop-agent l = IsForetelling (l.clock + 1) (place_of (map advanced l.paths)) l.tasks.tasks l.agent l.picked l.dropped
