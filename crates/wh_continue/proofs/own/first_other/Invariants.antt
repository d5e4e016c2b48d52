use Rattle.std.proofs.Common.{◌≡◌, ℕ, ◌<◌, Some}
use Rattle.std.specs.Prelude.{slice_get}
use Rattle.wh_event.specs.declared.entry.Entry.{Entry}
use Rattle.wh_continue.specs.Starting.{HasOwnSlots}
use Rattle.wh_continue.proofs.own.first_other.Given as goal

abbrev pub invariant-loop-place : goal.invariant-loop-place
invariant-loop-place l = (k : ℕ) (before : Entry) → k < l.place → slice_get l.history k ≡ Some before → HasOwnSlots before.reply
