use Rattle.std.proofs.Common.{◌≡◌, ℕ, ◌<◌, get_or}
use Rattle.wh_field.proofs.lazy.next_mark.Given as goal

abbrev pub invariant-loop-old : goal.invariant-loop-old
invariant-loop-old l = (k : ℕ) → k < l.old-index → get_or l.marks k 0 ≡ 0
