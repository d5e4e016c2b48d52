use Rattle.std.proofs.Common.{take}
use Rattle.wh_field.specs.Tables.{IsForgotten}
use Rattle.wh_field.proofs.table.forget.Given as goal

abbrev pub invariant-loop-place : goal.invariant-loop-place
invariant-loop-place l = IsForgotten l.fn.table (take l.place-index l.places) l.table
