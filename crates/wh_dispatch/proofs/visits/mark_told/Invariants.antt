use Rattle.std.proofs.Common.{◌≡◌, ℕ, ◌<◌, ◌≤◌, length, get_or}
use Rattle.wh_dispatch.specs.declared.visits.Pending.{Pending}
use Rattle.wh_dispatch.specs.Visiting.{told_of}
use Rattle.wh_dispatch.proofs.visits.mark_told.Given as goal

abbrev pub invariant-loop-place : goal.invariant-loop-place
invariant-loop-place g l = record {
  size : length l.pending.items ≡ length l.fn.pending.items;
  done : (k : ℕ) (d : Pending) → k < l.place → get_or l.pending.items k d ≡ told_of l.warehouse.book.opening.clock l.warehouse.book.state.tasks l.order.vehicles (get_or l.fn.pending.items k d);
  left : (k : ℕ) (d : Pending) → l.place ≤ k → get_or l.pending.items k d ≡ get_or l.fn.pending.items k d;
}
