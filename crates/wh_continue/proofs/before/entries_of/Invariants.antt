-- Those so far are summed, and those of the rest are left.
use Rattle.std.proofs.Common.{◌≡◌, ◌<◌, ◌+◌, ◌^◌, drop}
use Rattle.std.specs.List.{sum_by}
use Rattle.wh_front.specs.declared.front.Count.{Count}
use Rattle.wh_continue.proofs.before.entries_of.Given as goal

abbrev pub invariant-loop-count : goal.invariant-loop-count
invariant-loop-count l = record {
  few : l.total < 2 ^ 63;
  summed : l.total + sum_by (λ (count : Count). count.entries) (drop l.count-index l.counts) ≡ sum_by (λ (count : Count). count.entries) l.counts;
}
