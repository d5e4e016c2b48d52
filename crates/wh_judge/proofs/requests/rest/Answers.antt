use Rattle.std.proofs.Common.{refl}
use Rattle.wh_judge.proofs.Staying.{rests-at-once}
use Rattle.wh_judge.proofs.requests.rest.Goals as goal

pub returns-then-rests_at_once-clause-answer : goal.returns-then-rests_at_once-clause-answer
returns-then-rests_at_once-clause-answer c =
    let site = c.args.instance.now in
    let s = c.args.floor.now.state in
    let due = c.is_due.ensures.0 c.if-not-is_due.false in
    let e = c.if-rests_at_once.true in
    let home = c.requires.ways (c.rests_at_once.ensures.no_strays e) in
    let rests = rests-at-once site s c.args.agent c.requires.reached home due (c.rests_at_once.ensures.none e) (c.rests_at_once.ensures.out_of_the_way e) in
    (due, rests.0, rests.1, refl)
