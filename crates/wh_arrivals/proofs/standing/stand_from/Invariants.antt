use Rattle.std.proofs.Common.{take, drop}
use Rattle.wh_arrivals.proofs.Walks.{Walked}
use Rattle.wh_arrivals.proofs.standing.stand_from.Given as goal

abbrev pub invariant-loop-entry : goal.invariant-loop-entry
invariant-loop-entry l = Walked l.fn.book l.fn.ahead l.fn.steps (take l.entry-index l.history) (drop l.entry-index l.history) l.paths.items l.order
