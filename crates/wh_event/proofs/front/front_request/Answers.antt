use Rattle.std.proofs.Common.{◌≤◌, ◌<◌, ◌+◌, ◌*◌, ◌∙◌, ap, refl, arith, drop, get_or, length, take}
use Rattle.std.proofs.lemmas.List.{length-take, length-drop}
use Rattle.wh_text.proofs.NumberLemmas.{digits_more}
use Rattle.wh_event.proofs.Fronting.{digits_room, digit_of, value_more, front_law}
use Rattle.wh_event.proofs.front.front_request.Goals as goal

pub overflow_cast-result : goal.overflow_cast-result
overflow_cast-result c =
    let room = digits_room (take 10 (drop 6 c.args.text.now)) c.loop-count.count c.loop-count.agent c.loop-count-test.true c.loop-count.invariant.digits c.loop-count.invariant.value in
    omega (arith, room)

pub returns-then-count-gt0 : goal.returns-then-count-gt0
returns-then-count-gt0 c =
    front_law c.args.text.now (take 10 (drop 6 c.args.text.now)) c.loop-count.count c.loop-count.agent c.if-text-lt16.false (c.begins_request.ensures c.if-not-begins_request.false) refl c.if-count-gt0.true
    c.loop-count-test.true c.loop-count.invariant.digits c.loop-count.invariant.value c.if-byte-eq10.true

pub overflow_mul-agent : goal.overflow_mul-agent
overflow_mul-agent c =
    let room = digits_room (take 10 (drop 6 c.args.text.now)) c.loop-count.count c.loop-count.agent c.loop-count-test.true c.loop-count.invariant.digits c.loop-count.invariant.value in
    omega (arith, room)

pub overflow_add-agent : goal.overflow_add-agent
overflow_add-agent c =
    let number = take 10 (drop 6 c.args.text.now) in
    let room = digits_room number c.loop-count.count c.loop-count.agent c.loop-count-test.true c.loop-count.invariant.digits c.loop-count.invariant.value in
    let last : get_or number c.loop-count.count 0 ≤ 57 = c.if-byte-gt57.false in
    omega (arith, room, last, c.from.ensures)

pub loop-count-preserved : goal.loop-count-preserved
loop-count-preserved c =
    let number = take 10 (drop 6 c.args.text.now) in
    let ten : c.loop-count.count < length number = omega (arith, c.if-text-lt16.false, c.loop-count-test.true, length-take 10 (drop 6 c.args.text.now), length-drop 6 c.args.text.now) in
    record {
      value = ap (λ d. 10 * c.loop-count.agent + d) c.from.ensures ∙ value_more number c.loop-count.count c.loop-count.agent ten c.loop-count.invariant.value;
      digits = digits_more number c.loop-count.count ten c.loop-count.invariant.digits (digit_of (get_or number c.loop-count.count 0) c.if-byte-lt48.false c.if-byte-gt57.false);
    }
