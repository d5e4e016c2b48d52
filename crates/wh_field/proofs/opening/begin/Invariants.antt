use Rattle.std.proofs.Common.{take, vec_capacity}
use Rattle.wh_field.specs.Tables.{HasRoom}
use Rattle.wh_field.specs.Places.{IsStarted}
use Rattle.wh_field.proofs.opening.begin.Given as goal

abbrev pub invariant-loop-source : goal.invariant-loop-source
invariant-loop-source l =
    IsStarted l.grid l.avoid (take l.source-index l.sources) l.table l.queue.items
    × HasRoom (vec_capacity l.queue) l.table l.queue.items
