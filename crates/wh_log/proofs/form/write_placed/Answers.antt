use Rattle.std.proofs.lemmas.Result.{on_ok_weaker, on_err_weaker}
use Rattle.wh_lines.proofs.Written.{both_parts, in_first, in_second}
use Rattle.wh_log.proofs.Telling.{placed_parts}
use Rattle.wh_log.proofs.form.write_placed.Goals as goal

pub returns-in-Ok-clause-ok : goal.returns-in-Ok-clause-ok
returns-in-Ok-clause-ok g c =
    let text = placed_parts c.args.place c.args.clock c.args.reply.now in
    on_ok_weaker c.tell_full.result (λ p. both_parts _ _ _ _ _ _ text c.in-Ok.ensures.ok p) c.tell_full.ensures.ok

pub returns-in-Ok-clause-err : goal.returns-in-Ok-clause-err
returns-in-Ok-clause-err g c =
    let text = placed_parts c.args.place c.args.clock c.args.reply.now in
    on_err_weaker c.tell_full.result (λ w. in_second _ _ _ _ _ _ text c.in-Ok.ensures.ok w) c.tell_full.ensures.err

pub returns-in-Err-clause-err : goal.returns-in-Err-clause-err
returns-in-Err-clause-err g c = in_first _ _ _ _ _ (placed_parts c.args.place c.args.clock c.args.reply.now) c.in-Err.ensures.err
