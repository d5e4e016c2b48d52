use Rattle.wh_judge.proofs.Ways.{lacks-parking}
use Rattle.wh_judge.proofs.lacking.lacks_parking.Goals as goal

pub returns-clause-lacks : goal.returns-clause-lacks
returns-clause-lacks c =
    lacks-parking c.args.instance.now c.args.floor.now.state c.args.agent c.in_ok-can_park.field-0 (c.in_ok-makes_way.ensures.way.0 c.if-not-branch.false) c.in_ok-can_park.ensures
