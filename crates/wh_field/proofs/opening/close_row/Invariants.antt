use Rattle.std.proofs.Common.{◌≡◌, ◌+◌, vec_len, vec_capacity}
use Rattle.wh_field.specs.Places.{IsOpenBelow}
use Rattle.wh_field.proofs.opening.close_row.Given as goal

abbrev pub invariant-loop-x : goal.invariant-loop-x
invariant-loop-x l = record {
  open_so_far : IsOpenBelow l.grid (vec_len l.fn.table + l.x) l.table.items;
  room : vec_capacity l.table ≡ vec_capacity l.fn.table;
}
