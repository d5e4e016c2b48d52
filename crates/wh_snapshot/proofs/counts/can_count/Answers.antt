use Rattle.std.proofs.Common.{◌≡◌, refl, ap, arith, take}
use Rattle.std.proofs.lemmas.List.{take_all}
use Rattle.wh_snapshot.specs.Snapshots.{all_told}
use Rattle.wh_snapshot.proofs.counts.can_count.Goals as goal

pub returns : goal.returns
returns c =
    let past = c.loop-count-test.false in
    let whole : take c.loop-count.count-index c.args.had.now ≡ c.args.had.now = take_all c.loop-count.count-index c.args.had.now (omega (arith, past)) in
    let all = ap all_told whole in
    let total = c.loop-count.invariant.total in
    let few = c.loop-count.invariant.few in
    (λ yes. omega (arith, all, total, few), λ fits. refl)
