use Rattle.std.proofs.Common.{◌∷◌, ap}
use Rattle.std.proofs.lemmas.Result.{on_err_weaker}
use Rattle.std.specs.Prelude.{codes}
use Rattle.wh_log.specs.Told.{told_text}
use Rattle.wh_replay.specs.declared.answering.Answer.{Answer}
use Rattle.wh_replay.specs.Answering.{told_by_answers}
use Rattle.wh_replay.specs.Replying.{TellsOne}
use Rattle.wh_replay.proofs.Told.{tells_other, begins_other, ok_both}
use Rattle.wh_replay.proofs.replying.tell_one.Goals as goal

pub returns-in-NoEntry-clause-ok : goal.returns-in-NoEntry-clause-ok
returns-in-NoEntry-clause-ok g c =
    let had = g.W.Write.contents c.args.writer.now in
    let has = g.W.Write.contents c.tell_other.new.writer in
    ok_both c.tell_other.result c.args.told (λ after. TellsOne (told_text c.args.form) c.args.answer c.args.history.now c.args.told after had has)
    (λ after same p. tells_other (told_text c.args.form) c.args.history.now c.args.told had has c.args.answer (codes "refused E90")
    (λ rest entries. ap (λ (answer : Answer). told_by_answers (told_text c.args.form) c.args.told.next c.args.told.clock (answer ∷ rest) entries) c.in-NoEntry.is) after same p)
    c.tell_other.ensures.same c.tell_other.ensures.ok

pub returns-in-NoEntry-clause-err : goal.returns-in-NoEntry-clause-err
returns-in-NoEntry-clause-err g c =
    let had = g.W.Write.contents c.args.writer.now in
    let has = g.W.Write.contents c.tell_other.new.writer in
    on_err_weaker c.tell_other.result
    (λ w. begins_other (told_text c.args.form) c.args.history.now c.args.told had has c.args.answer (codes "refused E90")
    (λ rest entries. ap (λ (answer : Answer). told_by_answers (told_text c.args.form) c.args.told.next c.args.told.clock (answer ∷ rest) entries) c.in-NoEntry.is) w)
    c.tell_other.ensures.err

pub returns-in-NoCommand-clause-ok : goal.returns-in-NoCommand-clause-ok
returns-in-NoCommand-clause-ok g c =
    let had = g.W.Write.contents c.args.writer.now in
    let has = g.W.Write.contents c.tell_other-in-NoCommand.new.writer in
    ok_both c.tell_other-in-NoCommand.result c.args.told (λ after. TellsOne (told_text c.args.form) c.args.answer c.args.history.now c.args.told after had has)
    (λ after same p. tells_other (told_text c.args.form) c.args.history.now c.args.told had has c.args.answer (codes "refused C1")
    (λ rest entries. ap (λ (answer : Answer). told_by_answers (told_text c.args.form) c.args.told.next c.args.told.clock (answer ∷ rest) entries) c.in-NoCommand.is) after same p)
    c.tell_other-in-NoCommand.ensures.same c.tell_other-in-NoCommand.ensures.ok

pub returns-in-NoCommand-clause-err : goal.returns-in-NoCommand-clause-err
returns-in-NoCommand-clause-err g c =
    let had = g.W.Write.contents c.args.writer.now in
    let has = g.W.Write.contents c.tell_other-in-NoCommand.new.writer in
    on_err_weaker c.tell_other-in-NoCommand.result
    (λ w. begins_other (told_text c.args.form) c.args.history.now c.args.told had has c.args.answer (codes "refused C1")
    (λ rest entries. ap (λ (answer : Answer). told_by_answers (told_text c.args.form) c.args.told.next c.args.told.clock (answer ∷ rest) entries) c.in-NoCommand.is) w)
    c.tell_other-in-NoCommand.ensures.err

pub returns-in-TooLong-clause-ok : goal.returns-in-TooLong-clause-ok
returns-in-TooLong-clause-ok g c =
    let had = g.W.Write.contents c.args.writer.now in
    let has = g.W.Write.contents c.tell_other-in-TooLong.new.writer in
    ok_both c.tell_other-in-TooLong.result c.args.told (λ after. TellsOne (told_text c.args.form) c.args.answer c.args.history.now c.args.told after had has)
    (λ after same p. tells_other (told_text c.args.form) c.args.history.now c.args.told had has c.args.answer (codes "refused C2")
    (λ rest entries. ap (λ (answer : Answer). told_by_answers (told_text c.args.form) c.args.told.next c.args.told.clock (answer ∷ rest) entries) c.in-TooLong.is) after same p)
    c.tell_other-in-TooLong.ensures.same c.tell_other-in-TooLong.ensures.ok

pub returns-in-TooLong-clause-err : goal.returns-in-TooLong-clause-err
returns-in-TooLong-clause-err g c =
    let had = g.W.Write.contents c.args.writer.now in
    let has = g.W.Write.contents c.tell_other-in-TooLong.new.writer in
    on_err_weaker c.tell_other-in-TooLong.result
    (λ w. begins_other (told_text c.args.form) c.args.history.now c.args.told had has c.args.answer (codes "refused C2")
    (λ rest entries. ap (λ (answer : Answer). told_by_answers (told_text c.args.form) c.args.told.next c.args.told.clock (answer ∷ rest) entries) c.in-TooLong.is) w)
    c.tell_other-in-TooLong.ensures.err
