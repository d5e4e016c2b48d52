use Rattle.std.proofs.Common.{◌<◌, ◌≤◌, arith, length, take, get_or}
use Rattle.std.proofs.lemmas.List.{take_more, take_all}
use Rattle.std.proofs.lemmas.List.Elements.{All-push, All-weaker}
use Rattle.wh_state.proofs.dues.least.Goals as goal

pub loop-clock-preserved : goal.loop-clock-preserved
loop-clock-preserved c =
    let clocks = c.args.clocks.now in
    let i = c.loop-clock.clock-index in
    let h : i < length clocks = omega arith in
    rw (take_more clocks i 0 h) (All-push (λ due. c.min-soonest.result ≤ due) (take i clocks) (get_or clocks i 0)
    (All-weaker (λ due. c.loop-clock.soonest ≤ due) (λ due. c.min-soonest.result ≤ due) (λ due le. omega (arith, c.min-soonest.ensures)) (take i clocks) c.loop-clock.invariant)
    (omega (arith, c.min-soonest.ensures)))

pub returns : goal.returns
returns c = rw (take_all c.loop-clock.clock-index c.args.clocks.now (omega arith)) at c.loop-clock.invariant
