use Rattle.std.proofs.lemmas.Bool.{MatchBool-at_true, MatchBool-at_false}
use Rattle.std.proofs.Common.{inl, refl}
use Rattle.wh_judge.proofs.Staying.{stay-iff}
use Rattle.wh_judge.proofs.agents.may_stay.Goals as goal

pub returns-then-not-is_stray : goal.returns-then-not-is_stray
returns-then-not-is_stray c =
    let told = rw (c.points.ensures.value, c.homes.ensures) at (c.is_stray.ensures c.args.instance.now.grid) in
    (λ e. inl (MatchBool-at_false _ _ c.if-not-is_stray.true told), λ may. refl)

pub returns : goal.returns
returns c =
    let site = c.args.instance.now in
    let s = c.args.floor.now.state in
    let told = rw (c.points.ensures.value, c.homes.ensures) at (c.is_stray.ensures site.grid) in
    stay-iff site s c.args.agent c.may_linger.result (MatchBool-at_true _ _ c.if-not-is_stray.false told) c.may_linger.ensures
