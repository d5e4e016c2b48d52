use Rattle.std.proofs.Common.{length, take}
use Rattle.wh_desk.specs.Earlier.{Recalls}
use Rattle.wh_desk.proofs.earlier.take_all.Given as goal

-- the entries so far were taken up
abbrev pub invariant-loop-entry : goal.invariant-loop-entry
invariant-loop-entry l = Recalls l.fn.made.cells.names (length l.fn.made.owns.items) (take l.entry-index l.history) l.made
