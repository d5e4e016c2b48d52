use Rattle.std.proofs.Common.{◌-◌, ◌≤◌, [], drop, length, vec_capacity}
use Rattle.wh_field.specs.Tables.{IsSpreading, IsSameGround, HasRoom, IsListed}
use Rattle.wh_field.proofs.table.fill_until.Given as goal

abbrev pub invariant-loop-front : goal.invariant-loop-front
invariant-loop-front l =
    IsSpreading l.stride l.front.distance l.table [] (drop l.front.head l.queue.items)
    × IsSameGround l.fn.table l.table
    × HasRoom (vec_capacity l.queue) l.table l.queue.items
    × IsListed l.table l.queue.items
    × (l.front.head ≤ length l.queue.items)
    × (l.fn.front.distance ≤ l.front.distance)
    × (length l.fn.queue.items ≤ l.fn.front.head → length l.queue.items ≤ l.front.head)

abbrev pub decreases-loop-front : goal.decreases-loop-front
decreases-loop-front l = length l.table - l.front.distance
