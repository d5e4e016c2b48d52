use Rattle.std.proofs.Common.{ℕ, ◌-◌, ◌<◌, ◌≤◌, remove}
use Rattle.wh_resv.specs.Calls.{IsVacant}
use Rattle.wh_resv.proofs.times.next_free.Given as goal

abbrev pub invariant-loop-time : goal.invariant-loop-time
invariant-loop-time l = record {
  from : l.fn.k ≤ l.time;
  taken : (j : ℕ) → l.fn.k ≤ j → j < l.time → IsVacant (remove l.paths l.except) l.cell j → ⊥;
}

abbrev pub decreases-loop-time : goal.decreases-loop-time
decreases-loop-time l = l.latest - l.time
