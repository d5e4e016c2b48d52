use Rattle.std.proofs.Common.{◌≡◌, ◌++◌, ◌∙◌, sym, ap, take, drop, ◌+◌, length, Some, None, [], arith}
use Rattle.std.proofs.lemmas.List.{drop_all}
use Rattle.std.specs.Prelude.{position}
use Rattle.wh_text.specs.Lines.{is_line_feed}
use Rattle.wh_lines.specs.Input.{with_waiting}
use Rattle.wh_lines.proofs.Parts.{found, none, none_before, none_after}
use Rattle.wh_lines.proofs.next.take_part.Goals as goal

pub returns-in-Some-clause-whole : goal.returns-in-Some-clause-whole
returns-in-Some-clause-whole g c =
    let waiting = c.args.lines.now.waiting in
    let at : position is_line_feed waiting ≡ Some c.in-Some.end = ap (position is_line_feed) (sym c.waiting-waiting.ensures) ∙ sym c.first_line_feed.ensures ∙ c.in-Some.is in
    sym (found waiting c.in-Some.end at).0

pub returns-in-Some-clause-line : goal.returns-in-Some-clause-line
returns-in-Some-clause-line g c =
    let waiting = c.args.lines.now.waiting in
    let at : position is_line_feed waiting ≡ Some c.in-Some.end = ap (position is_line_feed) (sym c.waiting-waiting.ensures) ∙ sym c.first_line_feed.ensures ∙ c.in-Some.is in
    c.add.ensures ∙ ap (λ l. take 258 (c.args.line.now ++ take c.in-Some.end l)) c.waiting-waiting.ensures
    ∙ ap (λ n. take 258 (c.args.line.now ++ take n waiting)) (sym (found waiting c.in-Some.end at).1)

pub returns-in-Some-clause-lines : goal.returns-in-Some-clause-lines
returns-in-Some-clause-lines g c =
    let waiting = c.args.lines.now.waiting in
    let at : position is_line_feed waiting ≡ Some c.in-Some.end = ap (position is_line_feed) (sym c.waiting-waiting.ensures) ∙ sym c.first_line_feed.ensures ∙ c.in-Some.is in
    c.take.ensures ∙ ap (λ n. with_waiting c.args.lines.now (drop (n + 1) waiting)) (sym (found waiting c.in-Some.end at).1)

pub returns-in-None-clause-whole : goal.returns-in-None-clause-whole
returns-in-None-clause-whole g c =
    let waiting = c.args.lines.now.waiting in
    let at : position is_line_feed waiting ≡ None = ap (position is_line_feed) (sym c.waiting-waiting.ensures) ∙ sym c.first_line_feed.ensures ∙ c.in-None.is in
    sym (none waiting at)

pub returns-in-None-clause-line : goal.returns-in-None-clause-line
returns-in-None-clause-line g c =
    let waiting = c.args.lines.now.waiting in
    let at : position is_line_feed waiting ≡ None = ap (position is_line_feed) (sym c.waiting-waiting.ensures) ∙ sym c.first_line_feed.ensures ∙ c.in-None.is in
    c.add-in-None.ensures ∙ ap (λ l. take 258 (c.args.line.now ++ l)) (c.waiting-waiting.ensures ∙ sym (none_before waiting (none waiting at)))

pub returns-in-None-clause-lines : goal.returns-in-None-clause-lines
returns-in-None-clause-lines g c =
    let waiting = c.args.lines.now.waiting in
    let at : position is_line_feed waiting ≡ None = ap (position is_line_feed) (sym c.waiting-waiting.ensures) ∙ sym c.first_line_feed.ensures ∙ c.in-None.is in
    let all : drop (length c.waiting-waiting.result.now) waiting ≡ [] = drop_all (length c.waiting-waiting.result.now) waiting (omega (arith, ap length c.waiting-waiting.ensures)) in
    c.take-in-None.ensures ∙ ap (with_waiting c.args.lines.now) (all ∙ sym (none_after waiting (none waiting at)))
