use Rattle.std.proofs.lemmas.Result.{on_ok_weaker}
use Rattle.wh_continue.proofs.Begun.{begun_found, begun_new}
use Rattle.wh_continue.proofs.running.begin_log.Goals as goal

pub returns-in-Some-clause-stays : goal.returns-in-Some-clause-stays
returns-in-Some-clause-stays g c =
    on_ok_weaker c.keep_front.result (λ cut. (begun_found _ _ c.args.start.now c.in-Some.bytes c.requires.starts c.in-Some.is cut).stays) c.keep_front.ensures.ok

pub returns-in-Some-clause-holds : goal.returns-in-Some-clause-holds
returns-in-Some-clause-holds g c =
    on_ok_weaker c.keep_front.result (λ cut. (begun_found _ _ c.args.start.now c.in-Some.bytes c.requires.starts c.in-Some.is cut).holds) c.keep_front.ensures.ok

pub returns-in-Ok-clause-stays : goal.returns-in-Ok-clause-stays
returns-in-Ok-clause-stays g c = (begun_new _ _ c.args.start.now c.requires.starts c.in-None.is c.in-Ok.ensures.ok).stays

pub returns-in-Ok-clause-holds : goal.returns-in-Ok-clause-holds
returns-in-Ok-clause-holds g c = (begun_new _ _ c.args.start.now c.requires.starts c.in-None.is c.in-Ok.ensures.ok).holds
