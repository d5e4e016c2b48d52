use Rattle.std.proofs.lemmas.Bool.{MatchBool-at_true, MatchBool-at_false}
use Rattle.wh_judge.proofs.Staying.{no-stray-iff}
use Rattle.wh_judge.proofs.Ways.{shut-in}
use Rattle.wh_judge.proofs.lacking.is_shut_in.Goals as goal

pub returns-then-not-is_stray : goal.returns-then-not-is_stray
returns-then-not-is_stray c =
    let told = rw (c.points.ensures.value, c.homes.ensures) at (c.is_stray.ensures c.args.instance.now.grid) in
    no-stray-iff c.args.instance.now c.args.floor.now.state c.args.agent (MatchBool-at_false _ _ c.if-not-is_stray.true told)

pub returns : goal.returns
returns c =
    let told = rw (c.points.ensures.value, c.homes.ensures) at (c.is_stray.ensures c.args.instance.now.grid) in
    let next = c.requires.next in
    shut-in c.args.instance.now c.args.floor.now.state c.args.agent c.args.n next.0 c.in_ok-has_way.field-0 next.1
    (MatchBool-at_true _ _ c.if-not-is_stray.false told) c.in_ok-has_way.ensures
