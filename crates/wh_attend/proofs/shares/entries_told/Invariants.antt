-- Those so far are of other callers.
use Rattle.std.proofs.Common.{◌≡◌, drop}
use Rattle.wh_attend.specs.Guests.{entries_told}
use Rattle.wh_attend.proofs.shares.entries_told.Given as goal

abbrev pub invariant-loop-count : goal.invariant-loop-count
invariant-loop-count l = entries_told l.counts l.caller ≡ entries_told (drop l.count-index l.counts) l.caller
