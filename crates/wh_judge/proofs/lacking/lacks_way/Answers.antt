use Rattle.std.proofs.Common.{◌∙◌, inl, inr, sym}
use Rattle.std.proofs.lemmas.Bool.{false≢true}
use Rattle.std.proofs.lemmas.Result.{IfOk-weaker}
use Rattle.wh_judge.proofs.lacking.lacks_way.Goals as goal

pub returns-clause-lacks : goal.returns-clause-lacks
returns-clause-lacks c =
    IfOk-weaker c.lacks_parking.result _ _ (λ b iff. (
      λ t. inr (iff.0 t),
      λ either. elim either [
        | inl delivery ↦ absurd (false≢true (sym c.if-branch.false ∙ c.in_ok-lacks_delivery.ensures.lacks.1 delivery))
        | inr parking ↦ iff.1 parking
      ],
    )) c.lacks_parking.ensures.lacks
