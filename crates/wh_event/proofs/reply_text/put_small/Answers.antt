use Rattle.std.proofs.Common.{◌≤◌, length, decimal, arith}
use Rattle.wh_event.proofs.Digits.{ten, longer}
use Rattle.wh_event.proofs.reply_text.put_small.Goals as goal

pub put_digits-requires : goal.put_digits-requires
put_digits-requires c =
    let few : length (decimal c.from.result) ≤ 10 = rw c.from.ensures (ten c.args.number c.ranges.number.fits) in
    let front = longer c.args.line.now.items c.args.text.now c.put.new.line.items (length c.args.text.now) c.put.ensures (omega arith) in
    omega (arith, c.requires)

pub returns-clause-room : goal.returns-clause-room
returns-clause-room c =
    let few : length (decimal c.from.result) ≤ 10 = rw c.from.ensures (ten c.args.number c.ranges.number.fits) in
    let front = longer c.args.line.now.items c.args.text.now c.put.new.line.items (length c.args.text.now) c.put.ensures (omega arith) in
    let all = longer c.put.new.line.items (decimal c.from.result) c.put_digits.new.line.items 10 c.put_digits.ensures few in
    omega arith
