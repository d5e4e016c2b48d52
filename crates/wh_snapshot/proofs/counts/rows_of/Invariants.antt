use Rattle.std.proofs.Common.{◌≡◌, ℕ}
use Rattle.wh_snapshot.proofs.Counting.{Tells, counted_to}
use Rattle.wh_snapshot.proofs.counts.rows_of.Given as goal

abbrev pub invariant-loop-caller : goal.invariant-loop-caller
invariant-loop-caller l = (entries : ℕ → ℕ) → Tells l.tally entries → l.counts ≡ counted_to entries l.caller
