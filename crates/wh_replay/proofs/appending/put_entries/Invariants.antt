use Rattle.std.proofs.Common.{take}
use Rattle.wh_replay.specs.Appending.{Moves, lines_for}
use Rattle.wh_replay.proofs.appending.put_entries.Given as goal

abbrev pub invariant-loop-entry : goal.invariant-loop-entry
invariant-loop-entry g l = Moves g.K.Keeper.adds (g.K.Keeper.holds l.fn.keeper) (g.K.Keeper.holds l.keeper) l.fn.waiting.items l.waiting.items (lines_for (take l.entry-index l.entries))
