use Rattle.std.proofs.Common.{◌≡◌, ◌∙◌, ◌+◌, [], ◌∷◌, ◌++◌, ap, sym, subst}
use Rattle.wh_path.specs.Paths.{at}
use Rattle.wh_planners.proofs.Patience.{IsGoing, going_one, going_more}
use Rattle.wh_planners.proofs.patient.going_on.Goals as goal

pub loop-k-init : goal.loop-k-init
loop-k-init c =
    let own = c.args.own.now in
    let one : c.push.new.self.items ≡ at own 0 ∷ [] = c.in_ok-push.ensures.items ∙ ap (λ xs. xs ++ c.at.result ∷ []) c.in_ok-cells.ensures.items ∙ ap (λ x. x ∷ []) c.at.ensures in
    subst (IsGoing own 1) (sym one) (going_one own)

pub loop-k-preserved : goal.loop-k-preserved
loop-k-preserved c =
    let l = c.loop-k in
    let own = c.args.own.now in
    let more = c.in_ok-push-2.ensures.items ∙ ap (λ x. l.cells.items ++ x ∷ []) c.at-in-loop-k.ensures in
    subst (IsGoing own (l.k + 1 + 1)) (sym more) (going_more own (l.k + 1) l.cells.items l.invariant)
