use Rattle.std.proofs.Common.{◌≤◌, length, decimal}
use Rattle.wh_vehicles.proofs.Digits.{five, behind}
use Rattle.wh_vehicles.proofs.notice.put_side.Goals as goal

pub returns-clause-room : goal.returns-clause-room
returns-clause-room c =
    let few : length (decimal c.from.result) ≤ 5 = rw c.from.ensures (five c.args.number c.ranges.number.fits) in
    behind c.args.line.now.items c.args.text.now (decimal c.from.result) c.put_number.new.line.items 5 c.put_number.ensures.text few
