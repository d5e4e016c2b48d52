use Rattle.std.proofs.Common.{◌≡◌, ◌≤◌, ◌<◌, ◌++◌, ◌∙◌, ℕ, List, length, take, arith, subst, sym, ap}
use Rattle.wh_lines.specs.Text.{EndsLine}
use Rattle.wh_lines.specs.Input.{Input}
use Rattle.wh_lines.specs.Section.{HasNoMark, Overflows}
use Rattle.wh_lines.proofs.PlainLines.{collects_lines, overflows_lines}
use Rattle.wh_lines.proofs.sections.append_lines.Goals as goal

pub returns-then-len-limit-clause-too_long : goal.returns-then-len-limit-clause-too_long
returns-then-len-limit-clause-too_long g c = λ _ first collects.
    let text = c.args.text.now.items in
    let n = c.plain_lines-count.result in
    let same : c.waiting-waiting.result.now ≡ c.args.lines.now.waiting = c.waiting-waiting.ensures in
    let ends = subst (λ (w : List ℕ). EndsLine (take n w)) same c.plain_lines-count.ensures.whole in
    let unmarked = subst (λ (w : List ℕ). HasNoMark (take n w)) same c.plain_lines-count.ensures.unmarked in
    let moved : c.extend_from_slice.new.self.items ≡ text ++ take n c.args.lines.now.waiting =
    (rw c.if-is_err.ensures.negation at c.extend_from_slice.ensures.items) ∙ ap (λ w. text ++ take n w) same in
    let whole : length text ≤ c.args.start = omega (arith, c.len.ensures, c.if-start-len.false, c.args.text.now.ok.0) in
    let over : c.args.limit < length (text ++ take n c.args.lines.now.waiting) = omega (arith, c.len-2.ensures, c.if-len-limit.true, c.extend_from_slice.new.self.ok.0, ap length moved) in
    subst (λ (lines : Input). Overflows first lines c.args.limit) (sym c.take.ensures) (overflows_lines first c.args.lines.now text c.args.start n collects whole ends unmarked c.args.limit over)

pub returns-clause-collects : goal.returns-clause-collects
returns-clause-collects g c = λ first collects.
    let text = c.args.text.now.items in
    let n = c.plain_lines-count.result in
    let same : c.waiting-waiting.result.now ≡ c.args.lines.now.waiting = c.waiting-waiting.ensures in
    let ends = subst (λ (w : List ℕ). EndsLine (take n w)) same c.plain_lines-count.ensures.whole in
    let unmarked = subst (λ (w : List ℕ). HasNoMark (take n w)) same c.plain_lines-count.ensures.unmarked in
    let moved : c.extend_from_slice.new.self.items ≡ text ++ take n c.args.lines.now.waiting =
    (rw c.if-is_err.ensures.negation at c.extend_from_slice.ensures.items) ∙ ap (λ w. text ++ take n w) same in
    let whole : length text ≤ c.args.start = omega (arith, c.len.ensures, c.if-start-len.false, c.args.text.now.ok.0) in
    let long : c.len-3.result ≡ length c.extend_from_slice.new.self.items = omega (arith, c.len-3.ensures, c.extend_from_slice.new.self.ok.0) in
    rw (long, moved, c.take.ensures) (collects_lines first c.args.lines.now text c.args.start n collects whole ends unmarked)
