use Rattle.std.proofs.Common.{◌≡◌, ◌∙◌, ◌++◌, ℕ, ap, codes, decimal}
use Rattle.wh_deliver.proofs.Joined.{four}
use Rattle.wh_deliver.proofs.open_orders.push_bar.Goals as goal

pub returns : goal.returns
returns c =
    let out = c.args.out.now.items in
    let first : c.push_number.new.out.items ≡ out ++ (codes "standstill " ++ decimal c.args.task) =
    c.in_ok-push_number.ensures ∙ ap (λ (n : ℕ). out ++ (codes "standstill " ++ decimal n)) c.from.ensures in
    let second : c.push_number-2.new.out.items ≡ c.push_number.new.out.items ++ (codes " " ++ decimal c.args.one) =
    c.in_ok-push_number-2.ensures ∙ ap (λ (n : ℕ). c.push_number.new.out.items ++ (codes " " ++ decimal n)) c.from-2.ensures in
    let third : c.push_number-3.new.out.items ≡ c.push_number-2.new.out.items ++ (codes " " ++ decimal c.args.other) =
    c.in_ok-push_number-3.ensures ∙ ap (λ (n : ℕ). c.push_number-2.new.out.items ++ (codes " " ++ decimal n)) c.from-3.ensures in
    four out _ _ _ _ _ _ _ _ first second third c.in_ok-push.ensures.items
