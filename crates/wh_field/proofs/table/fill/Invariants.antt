use Rattle.std.proofs.Common.{◌-◌, ◌≤◌, [], drop, length, vec_capacity}
use Rattle.wh_field.specs.Tables.{IsSpreading, IsSameGround, HasRoom, IsListed}
use Rattle.wh_field.proofs.table.fill.Given as goal

abbrev pub invariant-loop-head : goal.invariant-loop-head
invariant-loop-head l =
    IsSpreading l.stride l.distance l.table [] (drop l.head l.queue.items)
    × IsSameGround l.fn.table l.table
    × HasRoom (vec_capacity l.queue) l.table l.queue.items
    × IsListed l.table l.queue.items
    × (l.head ≤ length l.queue.items)

abbrev pub decreases-loop-head : goal.decreases-loop-head
decreases-loop-head l = length l.table - l.distance
