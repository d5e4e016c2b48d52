use Rattle.wh_log.specs.Told.{told_text}
use Rattle.wh_replay.proofs.Told.{tells_more, tells_begun, from_here_on}
use Rattle.wh_replay.proofs.replying.tell_answers.Goals as goal

pub returns-in-Err-clause-err : goal.returns-in-Err-clause-err
returns-in-Err-clause-err g c =
    tells_begun (told_text c.args.form) c.args.history.now c.args.answers.now c.args.first c.args.clock _ c.loop-answer.answer-index c.loop-answer.told _ c.loop-answer.invariant _
    (from_here_on c.args.answers.now c.loop-answer.answer-index _ c.loop-answer-test.true) _ c.in-Err.ensures.err

pub loop-answer-preserved : goal.loop-answer-preserved
loop-answer-preserved g c =
    tells_more (told_text c.args.form) c.args.history.now c.args.answers.now c.args.first c.args.clock _ c.loop-answer.answer-index c.loop-answer.told _ c.loop-answer.invariant _
    (from_here_on c.args.answers.now c.loop-answer.answer-index _ c.loop-answer-test.true) c.in-Ok.after _ c.in-Ok.ensures.ok
