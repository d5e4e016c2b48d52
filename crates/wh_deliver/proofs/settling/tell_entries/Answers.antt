use Rattle.wh_deliver.proofs.Settled.{tells_begun, tells_more}
use Rattle.wh_deliver.proofs.settling.tell_entries.Goals as goal

pub returns-in-Err-clause-err : goal.returns-in-Err-clause-err
returns-in-Err-clause-err g c = tells_begun _ _ _ _ _ _ _ _ c.loop-place.invariant c.index-history-place.result c.loop-place-test.true _ c.in-Err.ensures.err

pub loop-place-preserved : goal.loop-place-preserved
loop-place-preserved g c = tells_more _ _ _ _ _ _ _ _ c.loop-place.invariant c.index-history-place.result c.loop-place-test.true _ _ c.clock_after-before.ensures c.in-Ok.ensures.ok
