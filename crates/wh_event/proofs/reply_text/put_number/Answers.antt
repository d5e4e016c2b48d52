use Rattle.std.proofs.Common.{length, decimal, arith}
use Rattle.wh_event.proofs.Digits.{twenty, longer}
use Rattle.wh_event.proofs.reply_text.put_number.Goals as goal

pub put_digits-requires : goal.put_digits-requires
put_digits-requires c =
    let few = twenty c.args.number c.ranges.number.fits in
    let front = longer c.args.line.now.items c.args.text.now c.put.new.line.items (length c.args.text.now) c.put.ensures (omega arith) in
    omega (arith, c.requires)

pub returns-clause-room : goal.returns-clause-room
returns-clause-room c =
    let front = longer c.args.line.now.items c.args.text.now c.put.new.line.items (length c.args.text.now) c.put.ensures (omega arith) in
    let all = longer c.put.new.line.items (decimal c.args.number) c.put_digits.new.line.items 20 c.put_digits.ensures (twenty c.args.number c.ranges.number.fits) in
    omega arith
