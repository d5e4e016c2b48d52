use Rattle.std.proofs.lemmas.Result.{on_ok_weaker, IfErr-weaker}
use Rattle.wh_journal.specs.Journals.{lines_for}
use Rattle.wh_continue.proofs.Delivered.{either_way, named_short, stands_short}
use Rattle.wh_continue.proofs.delivering.deliver_kept.Goals as goal

pub returns-clause-ok : goal.returns-clause-ok
returns-clause-ok g c =
    on_ok_weaker c.may_deliver.result (λ t. record { added = t.0; delivers = t.1; stands = t.2.appends; synced_is = t.2.safe }) c.may_deliver.ensures.ok

pub returns-clause-fault : goal.returns-clause-fault
returns-clause-fault g c =
    IfErr-weaker c.may_deliver.result _ _ (λ fault t. record { added = t.0; delivers = t.1; stands = stands_short fault (lines_for t.0) _ _ c.requires.synced t.2 }) c.may_deliver.ensures.fault

pub returns-clause-name : goal.returns-clause-name
returns-clause-name g c =
    either_way c.may_deliver.result _ (on_ok_weaker c.may_deliver.result (λ t. t.2.name_is) c.may_deliver.ensures.ok)
    (IfErr-weaker c.may_deliver.result _ _ (λ fault t. named_short fault (lines_for t.0) _ _ t.2) c.may_deliver.ensures.fault)
