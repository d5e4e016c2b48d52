use Rattle.std.proofs.Common.{ℕ, ◌<◌, take}
use Rattle.std.specs.List.{AllByRecursion}
use Rattle.wh_handover.proofs.sum.read_all.Given as goal

abbrev pub invariant-loop-byte : goal.invariant-loop-byte
invariant-loop-byte l = AllByRecursion (λ (byte : ℕ). byte < 256) (take l.byte-index l.bytes)
