use Rattle.std.proofs.Common.{◌≡◌, length, take}
use Rattle.wh_snapshot.specs.Snapshots.{entries_told}
use Rattle.wh_snapshot.proofs.Counting.{Tells}
use Rattle.wh_snapshot.proofs.counts.count_told.Given as goal

abbrev pub invariant-loop-count : goal.invariant-loop-count
invariant-loop-count l = record {
  callers : length l.tally.items ≡ 64;
  tells : Tells l.tally.items (λ k. entries_told k (take l.count-index l.had));
}
