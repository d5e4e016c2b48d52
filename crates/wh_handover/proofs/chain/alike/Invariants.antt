use Rattle.std.proofs.Common.{◌≡◌, ◌≤◌, take, length}
use Rattle.wh_handover.proofs.chain.alike.Given as goal

-- alike so far
abbrev pub invariant-loop-k : goal.invariant-loop-k
invariant-loop-k l = (take l.k l.text ≡ take l.k l.other) × (l.k ≤ length l.other)
