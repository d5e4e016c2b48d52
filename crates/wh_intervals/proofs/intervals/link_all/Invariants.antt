use Rattle.std.proofs.Common.{◌≡◌, length, map}
use Rattle.wh_intervals.specs.Places.{slot, kept, IsLinked}
use Rattle.wh_intervals.proofs.intervals.link_all.Given as goal

abbrev pub invariant-loop-place : goal.invariant-loop-place
invariant-loop-place l = record {
  linked : IsLinked (slot (length l.fn.heads)) l.heads l.noted l.place;
  size : length l.heads ≡ length l.fn.heads;
  same : map kept l.noted ≡ map kept l.fn.noted;
}
