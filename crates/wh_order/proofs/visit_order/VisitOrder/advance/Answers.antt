use Rattle.std.proofs.Common.{◌≡◌, true, false, refl, sym, subst}
use Rattle.std.proofs.lemmas.Bool.{not-true, not-false}
use Rattle.wh_order.specs.Orders.{Order, Represents}
use Rattle.wh_order.proofs.Settled.{settles-pass, settles-start}
use Rattle.wh_order.proofs.visit_order.VisitOrder.advance.Goals as goal

pub returns-then-pass-clause-drive : goal.returns-then-pass-clause-drive
returns-then-pass-clause-drive c =
    let kept = c.pass.ensures.kept c.if-pass.true in
    settles-pass c.args.self.now c.pass.new.self c.args.agent c.args.told.now.items kept.0 kept.2 (c.pass.ensures.passes c.if-pass.true)

pub returns-in_ok-push-in-Ok-clause-drive : goal.returns-in_ok-push-in-Ok-clause-drive
returns-in_ok-push-in-Ok-clause-drive c =
    let start = c.in-Ok.ensures in
    let leads : c.in-Ok.go.stays ≡ false = not-true c.in-Ok.go.stays c.if-not-go.true in
    let same : c.pass.new.self ≡ c.args.self.now = c.pass.ensures.same c.if-pass.false in
    λ d r.
    settles-start c.pass.new.self c.start.new.self c.args.agent c.in-Ok.go c.args.told.now.items c.push.new.self.items start.may start.ok start.tells
    (λ is. absurd (let f : c.in-Ok.go.stays ≡ true = is in cc)) (λ is. c.in_ok-push-in-Ok.ensures.items) d
    (subst (λ (s : Order). Represents s d) (sym same) r)

pub returns-else-not-go-clause-drive : goal.returns-else-not-go-clause-drive
returns-else-not-go-clause-drive c =
    let start = c.in-Ok.ensures in
    let stays : c.in-Ok.go.stays ≡ true = not-false c.in-Ok.go.stays c.if-not-go.false in
    let same : c.pass.new.self ≡ c.args.self.now = c.pass.ensures.same c.if-pass.false in
    λ d r.
    settles-start c.pass.new.self c.start.new.self c.args.agent c.in-Ok.go c.args.told.now.items c.args.told.now.items start.may start.ok start.tells
    (λ is. refl) (λ is. absurd (let f : c.in-Ok.go.stays ≡ false = is in cc)) d
    (subst (λ (s : Order). Represents s d) (sym same) r)
