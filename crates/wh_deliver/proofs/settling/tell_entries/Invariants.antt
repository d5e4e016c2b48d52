use Rattle.wh_log.specs.Told.{told_text}
use Rattle.wh_deliver.proofs.Settled.{TellsSo}
use Rattle.wh_deliver.proofs.settling.tell_entries.Given as goal

abbrev pub invariant-loop-place : goal.invariant-loop-place
invariant-loop-place g l = TellsSo (told_text l.fn.form) l.fn.history l.fn.first l.fn.clock l.place l.before (g.W.Write.contents l.fn.writer) (g.W.Write.contents l.writer)
