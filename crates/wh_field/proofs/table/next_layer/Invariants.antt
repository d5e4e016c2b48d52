use Rattle.std.proofs.Common.{◌≡◌, ◌+◌, ◌-◌, ◌≤◌, take, drop, length, vec_capacity}
use Rattle.wh_field.specs.Tables.{IsSpreading, IsSameGround, HasRoom, IsListed}
use Rattle.wh_field.proofs.table.next_layer.Given as goal

abbrev pub invariant-loop-k : goal.invariant-loop-k
invariant-loop-k l =
    IsSpreading l.stride (l.distance + 1) l.table (take (l.end - l.k) (drop l.k l.queue.items)) (drop l.end l.queue.items)
    × IsSameGround l.fn.table l.table
    × HasRoom (vec_capacity l.queue) l.table l.queue.items
    × IsListed l.table l.queue.items
    × (l.end ≤ length l.queue.items)
    × (take l.end l.queue.items ≡ l.fn.queue.items)
