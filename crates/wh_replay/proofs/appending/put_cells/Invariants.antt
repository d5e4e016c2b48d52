use Rattle.std.proofs.Common.{take, map}
use Rattle.wh_log.specs.Spaced.{spaced}
use Rattle.wh_log.specs.Spelling.{cell_word}
use Rattle.wh_replay.specs.Appending.{Moves}
use Rattle.wh_replay.proofs.appending.put_cells.Given as goal

abbrev pub invariant-loop-k : goal.invariant-loop-k
invariant-loop-k g l = Moves g.K.Keeper.adds (g.K.Keeper.holds l.fn.keeper) (g.K.Keeper.holds l.keeper) l.fn.waiting.items l.waiting.items (spaced (map cell_word (take l.k l.path)))
