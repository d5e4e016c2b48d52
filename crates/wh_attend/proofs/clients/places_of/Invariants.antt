-- There is a place for all callers so far.
use Rattle.std.proofs.Common.{ℕ, ◌<◌, ◌≤◌}
use Rattle.std.specs.Prelude.{slice_index_or}
use Rattle.wh_event.specs.declared.entry.Entry.{Entry}
use Rattle.wh_attend.proofs.clients.places_of.Given as goal

abbrev pub invariant-loop-entry : goal.invariant-loop-entry
invariant-loop-entry l = record {
  within : (k : ℕ) (d : Entry) → k < l.entry-index → (slice_index_or l.history k d).caller < l.places;
  few : l.places ≤ 64;
}
