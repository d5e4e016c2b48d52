use Rattle.std.proofs.Common.{take}
use Rattle.wh_field.specs.Tables.{IsLeastAmong}
use Rattle.wh_field.proofs.table.least_marked.Given as goal

abbrev pub invariant-loop-place : goal.invariant-loop-place
invariant-loop-place l = IsLeastAmong l.marks l.mark l.table (take l.place-index l.places) l.least
