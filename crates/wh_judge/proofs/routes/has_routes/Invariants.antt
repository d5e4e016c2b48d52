use Rattle.std.proofs.Common.{drop}
use Rattle.std.specs.Prelude.{◌↔◌}
use Rattle.wh_planner.specs.Duties.{HasRoutes}
use Rattle.wh_judge.proofs.routes.has_routes.Given as goal

abbrev pub invariant-loop-i : goal.invariant-loop-i
invariant-loop-i l = HasRoutes l.grid l.avoid l.fn.from l.fn.stops ↔ HasRoutes l.grid l.avoid l.here (drop l.i l.fn.stops)
