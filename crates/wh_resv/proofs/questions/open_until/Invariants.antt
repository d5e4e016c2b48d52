use Rattle.wh_resv.proofs.Passing.{IsPassed}
use Rattle.wh_resv.proofs.questions.open_until.Given as goal

abbrev pub invariant-loop-stay : goal.invariant-loop-stay
invariant-loop-stay l = IsPassed l.paths l.list l.except l.from l.to l.k l.time l.next l.stay-index l.start
