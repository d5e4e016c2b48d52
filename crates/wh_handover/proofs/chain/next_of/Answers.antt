use Rattle.std.proofs.Common.{refl, sym, subst, Some}
use Rattle.wh_handover.specs.Chains.{IsDueBehind}
use Rattle.wh_handover.proofs.chain.next_of.Goals as goal

pub returns-in-Ok-clause-ok : goal.returns-in-Ok-clause-ok
returns-in-Ok-clause-ok c =
    subst (λ goes_on. IsDueBehind c.args.resumed.now.book.site c.args.text.now goes_on (Some c.in-Ok.next)) (sym c.if-not-goes_on.false) (c.in-Ok.next, c.in-Ok.ensures.ok.0, refl)
