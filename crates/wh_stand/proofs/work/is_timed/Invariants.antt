use Rattle.std.proofs.Common.{ℕ, ◌<◌, ◌≤◌, length, get_or}
use Rattle.wh_core.specs.Laws.{IsTimed}
use Rattle.wh_stand.proofs.work.is_timed.Given as goal

abbrev pub invariant-loop-i : goal.invariant-loop-i
invariant-loop-i l = record {
  after : l.task.submitted ≤ l.last;
  first : (i : ℕ) → i < l.i → l.task.submitted ≤ get_or l.task.visits i 0;
  in_order : (i j : ℕ) → i ≤ j → j < l.i → get_or l.task.visits i 0 ≤ get_or l.task.visits j 0;
  last : (i : ℕ) → i < l.i → get_or l.task.visits i 0 ≤ l.last;
  next : IsTimed l.clock l.task → (i : ℕ) → l.i ≤ i → i < length l.task.visits → l.last ≤ get_or l.task.visits i 0;
  now : IsTimed l.clock l.task → l.last ≤ l.clock;
}
