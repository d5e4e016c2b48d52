use Rattle.std.proofs.Common.{◌≡◌}
use Rattle.wh_path.specs.Paths.{place_of}
use Rattle.wh_state.specs.Dues.{AreDue}
use Rattle.wh_state.proofs.Steps.{IsArriving}
use Rattle.wh_state.proofs.arrivals.arrive_all.Given as goal

abbrev pub invariant-loop-agent : goal.invariant-loop-agent
invariant-loop-agent l = record {
  arriving : IsArriving l.clock (place_of l.paths) l.fn.loads l.fn.tasks.tasks l.agent l.loads l.tasks.tasks l.picked l.dropped;
  room : l.tasks.room ≡ l.fn.tasks.room;
  ends : l.tasks.ends ≡ l.fn.tasks.ends;
  due : AreDue l.clock l.paths l.tasks.tasks l.dues;
}
