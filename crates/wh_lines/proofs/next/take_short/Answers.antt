use Rattle.std.proofs.Common.{◌≡◌, ◌∙◌, sym, ap, take, drop, length, ◌+◌, ◌≤◌, Some, arith}
use Rattle.std.proofs.lemmas.List.{length-take, take_all}
use Rattle.std.specs.Prelude.{position}
use Rattle.std.specs.List.{position_or_len}
use Rattle.wh_text.specs.Lines.{is_line_feed}
use Rattle.wh_lines.specs.Input.{with_waiting}
use Rattle.wh_lines.proofs.Parts.{found_in_front}
use Rattle.wh_lines.proofs.next.take_short.Goals as goal

pub keep_front-requires-clause-count : goal.keep_front-requires-clause-count
keep_front-requires-clause-count g c =
    let at : position is_line_feed (take 32 c.waiting-waiting.result.now) ≡ Some c.in-Some.end = sym c.first_line_feed.ensures ∙ c.in-Some.is in
    let less = (found_in_front c.waiting-waiting.result.now 32 c.in-Some.end at).2 in
    omega (arith, less)

pub overflow_add-end : goal.overflow_add-end
overflow_add-end g c =
    let at : position is_line_feed (take 32 c.waiting-waiting.result.now) ≡ Some c.in-Some.end = sym c.first_line_feed.ensures ∙ c.in-Some.is in
    let less = (found_in_front c.waiting-waiting.result.now 32 c.in-Some.end at).2 in
    omega (arith, less)

pub take-requires : goal.take-requires
take-requires g c =
    let at : position is_line_feed (take 32 c.waiting-waiting.result.now) ≡ Some c.in-Some.end = sym c.first_line_feed.ensures ∙ c.in-Some.is in
    let less = (found_in_front c.waiting-waiting.result.now 32 c.in-Some.end at).2 in
    let same = ap length c.waiting-waiting.ensures in
    omega (arith, less, same, c.if-waiting-lt32.false)

pub returns-in-Some-clause-line : goal.returns-in-Some-clause-line
returns-in-Some-clause-line g c =
    let waiting = c.args.lines.now.waiting in
    let at : position is_line_feed (take 32 waiting) ≡ Some c.in-Some.end = ap (λ l. position is_line_feed (take 32 l)) (sym c.waiting-waiting.ensures) ∙ sym c.first_line_feed.ensures ∙ c.in-Some.is in
    let front = found_in_front waiting 32 c.in-Some.end at in
    let few : position_or_len is_line_feed waiting ≤ 258 = omega (arith, front.1, front.2) in
    λ _. c.keep_front.ensures ∙ ap (take c.in-Some.end) c.waiting-waiting.ensures ∙ ap (λ n. take n waiting) (sym front.1)
    ∙ sym (take_all 258 (take (position_or_len is_line_feed waiting) waiting) (omega (arith, few, length-take (position_or_len is_line_feed waiting) waiting)))

pub returns-in-Some-clause-lines : goal.returns-in-Some-clause-lines
returns-in-Some-clause-lines g c =
    let waiting = c.args.lines.now.waiting in
    let at : position is_line_feed (take 32 waiting) ≡ Some c.in-Some.end = ap (λ l. position is_line_feed (take 32 l)) (sym c.waiting-waiting.ensures) ∙ sym c.first_line_feed.ensures ∙ c.in-Some.is in
    λ _. c.take.ensures ∙ ap (λ n. with_waiting c.args.lines.now (drop (n + 1) waiting)) (sym (found_in_front waiting 32 c.in-Some.end at).1)

pub returns-in-Some-clause-whole : goal.returns-in-Some-clause-whole
returns-in-Some-clause-whole g c =
    let waiting = c.args.lines.now.waiting in
    let at : position is_line_feed (take 32 waiting) ≡ Some c.in-Some.end = ap (λ l. position is_line_feed (take 32 l)) (sym c.waiting-waiting.ensures) ∙ sym c.first_line_feed.ensures ∙ c.in-Some.is in
    λ _. (found_in_front waiting 32 c.in-Some.end at).0
