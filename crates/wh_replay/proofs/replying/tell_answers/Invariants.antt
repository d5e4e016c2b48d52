use Rattle.wh_log.specs.Told.{told_text}
use Rattle.wh_replay.proofs.Told.{Tells}
use Rattle.wh_replay.proofs.replying.tell_answers.Given as goal

abbrev pub invariant-loop-answer : goal.invariant-loop-answer
invariant-loop-answer g l =
    Tells (told_text l.fn.form) l.fn.history l.fn.answers l.fn.first l.fn.clock l.answer-index l.told (g.W.Write.contents l.fn.writer) (g.W.Write.contents l.writer)
