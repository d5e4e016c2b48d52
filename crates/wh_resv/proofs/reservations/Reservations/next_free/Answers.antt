use Rattle.std.proofs.Common.{IfNone, subst}
use Rattle.wh_resv.specs.Others.{Others}
use Rattle.wh_resv.specs.Questions.{IsNeverFree}
use Rattle.wh_resv.proofs.reservations.Reservations.next_free.Goals as goal

pub returns-clause-none : goal.returns-clause-none
returns-clause-none c = subst (λ (o : Others). IfNone c.next_free.result (IsNeverFree o.paths c.args.cell c.args.k)) c.self.view_is c.next_free.ensures.none
