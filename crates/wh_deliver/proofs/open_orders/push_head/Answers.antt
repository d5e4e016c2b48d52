use Rattle.std.proofs.Common.{◌≡◌, ◌==◌, ◌∙◌, ◌++◌, [], ◌∷◌, Bool, false, arith, cond, ap, sym, codes, decimal}
use Rattle.std.proofs.lemmas.Bool.Decides.{nat_tests}
use Rattle.wh_deliver.proofs.Joined.{two}
use Rattle.wh_deliver.proofs.open_orders.push_head.Goals as goal

pub returns : goal.returns
returns c =
    let some = c.if-count-eq0.false in
    let off : (c.args.count == 0) ≡ false = grind (arith, nat_tests) in
    two _ _ _ _ _ c.in_ok-push_number.ensures c.in_ok-push.ensures.items
    ∙ ap (λ (b : Bool). c.args.out.now.items ++ cond b [] ((codes "orders open: " ++ decimal c.args.count) ++ 10 ∷ [])) (sym off)
