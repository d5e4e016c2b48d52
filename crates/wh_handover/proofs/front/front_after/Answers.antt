use Rattle.std.proofs.Common.{subst}
use Rattle.std.specs.Prelude.{IfErr, IfOk}
use Rattle.std.proofs.lemmas.Result.{IfOk-weaker}
use Rattle.wh_points.specs.Points.{Site}
use Rattle.wh_handover.specs.Handing.{IsHandover, IsWhyNone}
use Rattle.wh_handover.proofs.front.front_after.Goals as goal

pub returns-clause-ok : goal.returns-clause-ok
returns-clause-ok c =
    subst (λ (s : Site). IfOk c.front_of-front.result (IsHandover s c.args.text.now c.args.after)) c.in-Ok.ensures.site
    (IfOk-weaker c.front_of-front.result _ _ (λ front hands. hands.0) c.front_of-front.ensures.ok)

pub returns-clause-fault : goal.returns-clause-fault
returns-clause-fault c = subst (λ (s : Site). IfErr c.front_of-front.result (IsWhyNone s c.args.text.now c.args.after)) c.in-Ok.ensures.site c.front_of-front.ensures.fault

pub returns-in-Err-clause-fault : goal.returns-in-Err-clause-fault
returns-in-Err-clause-fault c = c.in-Err.ensures.fault c.args.after
