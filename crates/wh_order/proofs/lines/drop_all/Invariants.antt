use Rattle.std.proofs.Common.{◌≡◌, ℕ, ◌<◌, ◌≤◌, map, drop}
use Rattle.wh_order.specs.Orders.{line_of, reached_of}
use Rattle.wh_order.proofs.lines.drop_all.Given as goal

abbrev pub invariant-loop-i : goal.invariant-loop-i
invariant-loop-i l = record {
  done : (k : ℕ) → k < l.i → line_of (map (λ q. q.items) l.lines) k ≡ drop (reached_of l.vehicles k) (line_of (map (λ q. q.items) l.initial.lines) k);
  rest : (k : ℕ) → l.i ≤ k → line_of (map (λ q. q.items) l.lines) k ≡ line_of (map (λ q. q.items) l.initial.lines) k;
}
