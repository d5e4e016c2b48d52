use Rattle.std.proofs.Common.{[], ◌∷◌}
use Rattle.std.proofs.lemmas.Result.{on_err_weaker}
use Rattle.wh_lines.proofs.Written.{front_after, front_first}
use Rattle.wh_deliver.proofs.settling.tell_entry.Goals as goal

pub returns-in-Ok-clause-err : goal.returns-in-Ok-clause-err
returns-in-Ok-clause-err g c =
    on_err_weaker c.write_all.result (λ w. front_after _ _ _ _ (10 ∷ []) c.in-Ok.ensures.ok w) c.write_all.ensures.err

pub returns-in-Err-clause-err : goal.returns-in-Err-clause-err
returns-in-Err-clause-err g c = front_first _ _ _ (10 ∷ []) c.in-Err.ensures.err
