use Rattle.std.proofs.Common.{◌≡◌, ◌++◌, take}
use Rattle.wh_snapshot.specs.Snapshots.{submitters}
use Rattle.wh_snapshot.proofs.submissions.submitters_of.Given as goal

abbrev pub invariant-loop-entry : goal.invariant-loop-entry
invariant-loop-entry l = l.callers.items ≡ l.had ++ submitters (take l.entry-index l.history)
