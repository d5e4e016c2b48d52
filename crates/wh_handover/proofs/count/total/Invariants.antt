use Rattle.std.proofs.Common.{◌≡◌, ◌<◌, ◌^◌, take}
use Rattle.wh_snapshot.specs.Snapshots.{all_told}
use Rattle.wh_handover.proofs.count.total.Given as goal

abbrev pub invariant-loop-count : goal.invariant-loop-count
invariant-loop-count l = record {
  sum : l.sum ≡ all_told (take l.count-index l.had);
  few : l.sum < 2 ^ 64;
}
