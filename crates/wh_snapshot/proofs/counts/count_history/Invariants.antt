use Rattle.std.proofs.Common.{◌≡◌, ◌+◌, length, take, get_or}
use Rattle.wh_snapshot.specs.Snapshots.{entries_of}
use Rattle.wh_snapshot.proofs.Counting.{Tells}
use Rattle.wh_snapshot.proofs.counts.count_history.Given as goal

abbrev pub invariant-loop-entry : goal.invariant-loop-entry
invariant-loop-entry l = record {
  callers : length l.tally.items ≡ 64;
  tells : Tells l.tally.items (λ k. get_or l.fn.tally.items k 0 + entries_of k (take l.entry-index l.history));
}
