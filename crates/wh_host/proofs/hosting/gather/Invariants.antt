use Rattle.std.proofs.Common.{◌≡◌, ◌≤◌, ◌+◌, ◌++◌, length, vec_capacity}
use Rattle.std.specs.Vec.Iter.{into_iter_items}
use Rattle.wh_host.proofs.hosting.gather.Given as goal

-- what was moved so far, and the passes that are left
abbrev pub invariant-loop-pass : goal.invariant-loop-pass
invariant-loop-pass g l =
    (l.yielded ++ into_iter_items l.pass-iterator ≡ l.fn.served.items)
    × (l.room.items ≡ l.yielded)
    × (length l.fn.served.items + 1 ≤ vec_capacity l.room)
