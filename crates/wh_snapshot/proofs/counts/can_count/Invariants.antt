use Rattle.std.proofs.Common.{◌≡◌, ◌+◌, ◌<◌, ◌^◌, length, take}
use Rattle.wh_snapshot.specs.Snapshots.{all_told}
use Rattle.wh_snapshot.proofs.counts.can_count.Given as goal

abbrev pub invariant-loop-count : goal.invariant-loop-count
invariant-loop-count l = record {
  total : l.total ≡ length l.history + all_told (take l.count-index l.had);
  few : l.total < 2 ^ 64;
}
