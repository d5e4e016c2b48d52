use Rattle.std.proofs.Common.{◌≤◌, length, decimal}
use Rattle.wh_event.proofs.Digits.{ten}
use Rattle.wh_vehicles.proofs.Digits.{behind}
use Rattle.wh_vehicles.proofs.notice.put_small.Goals as goal

pub returns-clause-room : goal.returns-clause-room
returns-clause-room c =
    let few : length (decimal c.from.result) ≤ 10 = rw c.from.ensures (ten c.args.number c.ranges.number.fits) in
    behind c.args.line.now.items c.args.text.now (decimal c.from.result) c.put_number.new.line.items 10 c.put_number.ensures.text few
