use Rattle.std.proofs.Common.{◌∙◌, ℕ, List, refl, ap, subst, Err}
use Rattle.wh_front.specs.Fronts.{front_text}
use Rattle.wh_handover.specs.Chains.{IsFirstOther, due}
use Rattle.wh_handover.proofs.Chaining.{front_part, otherwise_of}
use Rattle.wh_handover.proofs.chain.join.Goals as goal

pub returns-in-Ok-compare-clause-joined : goal.returns-in-Ok-compare-clause-joined
returns-in-Ok-compare-clause-joined c =
    let front = c.in-Ok.read.front in
    let rest = c.in-Ok.read.rest.now in
    let found = c.in-Ok.ensures.found in
    (front, rest, found.0, found.1, c.in-Ok-compare.ensures.same ∙ front_part c.args.text.now (front_text front) rest found.1, refl)

pub returns-in-Err-clause-fault : goal.returns-in-Err-clause-fault
returns-in-Err-clause-fault c =
    let front = c.in-Ok.read.front in
    let rest = c.in-Ok.read.rest.now in
    let found = c.in-Ok.ensures.found in
    otherwise_of c.args.whole front c.args.text.now rest c.in-Err.fault found.0 found.1 (λ line is.
    subst (λ (t : List ℕ). IsFirstOther (front_text (due c.args.whole front)) t line) (front_part c.args.text.now (front_text front) rest found.1) (c.in-Err.ensures.other line (ap Err is)))
