use Rattle.std.proofs.Common.{arith}
use Rattle.wh_path.proofs.HorizonLemmas.{horizon-drop}
use Rattle.wh_path.proofs.ends.greatest_end.Goals as goal

pub loop-q-preserved : goal.loop-q-preserved
loop-q-preserved c =
    let next = horizon-drop c.args.paths.now c.loop-q.q-index c.q-item.result c.loop-q-test.true c.q-item.is in
    (omega arith, omega arith)
