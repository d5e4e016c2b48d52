use Rattle.std.proofs.Common.{◌≡◌, ◌+◌, ◌*◌, vec_capacity}
use Rattle.wh_field.specs.Places.{IsOpenBelow}
use Rattle.wh_field.proofs.opening.open_row.Given as goal

abbrev pub invariant-loop-x : goal.invariant-loop-x
invariant-loop-x l = record {
  open_so_far : IsOpenBelow l.grid ((l.y + 1) * (l.grid.width + 1) + l.x) l.table.items;
  room : vec_capacity l.table ≡ vec_capacity l.fn.table;
}
