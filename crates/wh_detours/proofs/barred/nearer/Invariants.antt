use Rattle.std.proofs.Common.{ℕ, ◌<◌, ◌≤◌, get_or}
use Rattle.wh_path.proofs.AtLemmas.{origin}
use Rattle.wh_field.specs.Sides.{around}
use Rattle.wh_detours.specs.Closed.{IsClosed}
use Rattle.wh_detours.specs.Barred.{sighted}
use Rattle.wh_detours.proofs.barred.nearer.Given as goal

abbrev pub invariant-loop-i : goal.invariant-loop-i
invariant-loop-i l = (j : ℕ) → 1 ≤ j → j < l.i → sighted l.fn.sight (get_or (around l.fn.cell) j origin) < sighted l.fn.sight l.fn.cell → IsClosed l.others l.fn.loc (get_or (around l.fn.cell) j origin)
