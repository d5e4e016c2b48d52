use Rattle.std.proofs.Common.{◌<◌, ◌≤◌, ◌^◌, length, take, get_or, arith}
use Rattle.wh_text.proofs.NumberLemmas.{digits_more}
use Rattle.wh_words.specs.Numerals.{value_of}
use Rattle.wh_log.proofs.FrontNumbers.{value_more, digit_is, front_below}
use Rattle.wh_log.proofs.usual.number.Goals as goal

pub overflow_mul-value : goal.overflow_mul-value
overflow_mul-value c =
    let few : c.loop-i.i < 9 = omega (arith, c.loop-i-test.true, c.loop-i.invariant.few) in
    let below : value_of (take c.loop-i.i c.args.text.now) < 10 ^ 8 = front_below c.args.text.now c.loop-i.i few c.loop-i.invariant.digits in
    omega (arith, c.loop-i.invariant.value, below)

pub overflow_add-value : goal.overflow_add-value
overflow_add-value c =
    let few : c.loop-i.i < 9 = omega (arith, c.loop-i-test.true, c.loop-i.invariant.few) in
    let below : value_of (take c.loop-i.i c.args.text.now) < 10 ^ 8 = front_below c.args.text.now c.loop-i.i few c.loop-i.invariant.digits in
    omega (arith, c.loop-i.invariant.value, below, c.from.ensures, c.if-b-lt48.false, c.if-b-gt57.false)

pub loop-i-preserved : goal.loop-i-preserved
loop-i-preserved c =
    let text = c.args.text.now in
    let inside : c.loop-i.i < length text = omega (arith, c.loop-i-test.true, c.loop-i.invariant.inside) in
    let low : 48 ≤ get_or text c.loop-i.i 0 = omega (arith, c.if-b-lt48.false) in
    let high : get_or text c.loop-i.i 0 ≤ 57 = omega (arith, c.if-b-gt57.false) in
    record {
      value = omega (arith, c.loop-i.invariant.value, value_more text c.loop-i.i inside, c.from.ensures);
      digits = digits_more text c.loop-i.i inside c.loop-i.invariant.digits (digit_is (get_or text c.loop-i.i 0) low high);
      few = c.loop-i.invariant.few;
      inside = c.loop-i.invariant.inside;
    }
