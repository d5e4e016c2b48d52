use Rattle.std.proofs.Common.{◌≡◌, ◌+◌, sym, arith, drop}
use Rattle.std.proofs.lemmas.Bool.{not-true, not-false}
use Rattle.wh_tasks.specs.Arrivals.{stops_here}
use Rattle.wh_tasks.proofs.Arriving.{here-more, here-stops}
use Rattle.wh_book.proofs.idle.count_here.Goals as goal

pub returns-then-ne-clause-here : goal.returns-then-ne-clause-here
returns-then-ne-clause-here c =
    let e = here-stops c.args.here c.args.stops.now c.loop-k.k (record { x = 0; y = 0 }) c.loop-k-test.true (not-true _ (sym c.if-ne.ensures)) in
    let i : stops_here c.args.here c.args.stops.now ≡ c.loop-k.k + stops_here c.args.here (drop c.loop-k.k c.args.stops.now) = c.loop-k.invariant in
    omega arith

pub loop-k-preserved : goal.loop-k-preserved
loop-k-preserved c =
    let e = here-more c.args.here c.args.stops.now c.loop-k.k (record { x = 0; y = 0 }) c.loop-k-test.true (not-false _ (sym c.if-ne.ensures)) in
    let i : stops_here c.args.here c.args.stops.now ≡ c.loop-k.k + stops_here c.args.here (drop c.loop-k.k c.args.stops.now) = c.loop-k.invariant in
    omega arith
