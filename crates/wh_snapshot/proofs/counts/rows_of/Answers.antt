use Rattle.std.proofs.Common.{◌≡◌, ℕ, subst, arith}
use Rattle.wh_snapshot.proofs.Counting.{rows_go, counted_to}
use Rattle.wh_snapshot.proofs.counts.rows_of.Goals as goal

pub loop-caller-preserved : goal.loop-caller-preserved
loop-caller-preserved c =
    rows_go c.args.tally.now c.loop-caller.caller c.loop-caller.counts c.push_count.new.counts c.loop-caller-test.true c.loop-caller.invariant c.in_ok-push_count.ensures

pub returns : goal.returns
returns c = λ entries tells.
    let past = c.loop-caller-test.false in
    let within = c.loop-caller.auto.caller-end in
    let last : c.loop-caller.caller ≡ 64 = omega (arith, past, within) in
    subst (λ (n : ℕ). c.loop-caller.counts ≡ counted_to entries n) last (c.loop-caller.invariant entries tells)
