use Rattle.std.proofs.Common.{◌≡◌, ◌≤◌, length, ap, arith}
use Rattle.wh_state.proofs.NextStops.{at-before, at-never}
use Rattle.wh_state.proofs.coming.comes_at.Goals as goal

pub returns-then-is : goal.returns-then-is
returns-then-is c =
    let long : length c.cells-here-items.result.now ≡ length c.args.path.now = ap length c.cells-here-items.ensures.value in
    let within : c.loop-here.here-index ≤ length c.args.path.now = omega arith in
    λ k soon. at-before c.args.path.now c.args.cell c.loop-here.here-index within c.loop-here.invariant.before k (let le = c.loop-here.invariant.soon in omega arith)

pub returns : goal.returns
returns c =
    let long : length c.cells-here-items.result.now ≡ length c.args.path.now = ap length c.cells-here-items.ensures.value in
    let some = c.cells-here-items.ensures.some in
    let all : length c.args.path.now ≤ c.loop-here.here-index = omega arith in
    λ k soon. at-never c.args.path.now c.args.cell (omega arith) (λ j lt. c.loop-here.invariant.before j (omega arith)) k
