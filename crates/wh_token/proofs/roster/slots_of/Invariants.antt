use Rattle.std.proofs.Common.{take}
use Rattle.wh_token.specs.Fleet.{IsTied}
use Rattle.wh_token.proofs.roster.slots_of.Given as goal

abbrev pub invariant-loop-planner : goal.invariant-loop-planner
invariant-loop-planner g l = IsTied g.P.Plans.fits_map g.P.Plans.slot_count l._grid (take l.planner-index l.planners) l.slots.items
