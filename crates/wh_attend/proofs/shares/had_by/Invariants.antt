-- Those so far are counted, and those of the rest are left.
use Rattle.std.proofs.Common.{◌≡◌, ◌≤◌, ◌+◌, length, drop}
use Rattle.wh_desk.specs.Lists.{entries_from, entries_of}
use Rattle.wh_attend.proofs.shares.had_by.Given as goal

abbrev pub invariant-loop-entry : goal.invariant-loop-entry
invariant-loop-entry l = record {
  few : l.count ≤ l.entry-index;
  counted : l.count + length (entries_from l.entry-index (drop l.entry-index l.history) l.caller) ≡ length (entries_of l.history l.caller);
}
