use Rattle.std.proofs.Common.{◌∙◌, ◌+◌, ◌<◌, ◌/◌, ◌%◌, ◌++◌, ◌∷◌, [], ap, arith, sym, length, append_assoc}
use Rattle.std.proofs.lemmas.Fmt.{decimal_digit}
use Rattle.itoa.proofs.Decimal.{length_one, length_two, decimal_two}
use Rattle.wh_event.proofs.Digits.{longer}
use Rattle.wh_event.proofs.reply_text.put_few.Goals as goal

pub push-requires : goal.push-requires
push-requires c =
    let room : length c.args.line.now.items < 64 = omega (arith, length_one c.args.number c.if-number-lt10.true, c.requires.room) in
    (omega arith, room)

pub returns-then-number-lt10 : goal.returns-then-number-lt10
returns-then-number-lt10 c = c.push.ensures.items ∙ ap (λ l. c.args.line.now.items ++ l) (sym (decimal_digit c.args.number c.if-number-lt10.true))

pub push-requires-2 : goal.push-requires-2
push-requires-2 c =
    let room : length c.args.line.now.items < 64 = omega (arith, length_two c.args.number c.if-number-lt10.false c.requires.few, c.requires.room) in
    (omega arith, room)

pub push-requires-3 : goal.push-requires-3
push-requires-3 c =
    let one = longer c.args.line.now.items ((48 + c.args.number / 10) ∷ []) c.push-2.new.self.items 1 c.push-2.ensures.items (omega arith) in
    let room : length c.push-2.new.self.items < 64 = omega (arith, one, length_two c.args.number c.if-number-lt10.false c.requires.few, c.requires.room) in
    (omega arith, room)

pub returns : goal.returns
returns c =
    let tens = (48 + c.args.number / 10) ∷ [] in
    let ones = (48 + c.args.number % 10) ∷ [] in
    c.push-3.ensures.items ∙ ap (λ l. l ++ ones) c.push-2.ensures.items ∙ append_assoc c.args.line.now.items tens ones
    ∙ ap (λ l. c.args.line.now.items ++ l) (sym (decimal_two c.args.number c.if-number-lt10.false c.requires.few))
