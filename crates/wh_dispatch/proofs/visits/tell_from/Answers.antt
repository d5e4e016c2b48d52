use Rattle.std.proofs.Common.{◌≡◌, ℕ, ◌+◌, ◌-◌, ◌<◌, ◌∙◌, List, [], length, take, get_or, sym, subst, ap, arith}
use Rattle.std.specs.Io.KnownBytes.{Appends}
use Rattle.std.proofs.lemmas.List.{length-map, get_or-map, take_all}
use Rattle.std.proofs.lemmas.List.FromFn.{length-map-range_with_len, get_or-map-range_with_len}
use Rattle.wh_lines.specs.Output.{WritesFront}
use Rattle.wh_lines.proofs.Written.{on_err_of}
use Rattle.wh_replay.specs.Answers.{reply_line, text_of}
use Rattle.wh_dispatch.specs.Lines.{visit_line, visit_lines}
use Rattle.wh_dispatch.specs.Visiting.{visits_from}
use Rattle.wh_dispatch.proofs.Texts.{lines_front, lines_more}
use Rattle.wh_dispatch.proofs.Watching.{visit}
use Rattle.wh_dispatch.proofs.visits.tell_from.Goals as goal

size : (agent task first n : ℕ) → length (visit_lines (visits_from agent task first n)) ≡ n
size agent task first n = length-map (visits_from agent task first n) visit_line ∙ length-map-range_with_len (visit agent task) first n

piece : (agent task first n i k : ℕ) → i < n → first + i ≡ k → visit_line (visit agent task k) ≡ get_or (visit_lines (visits_from agent task first n)) i []
piece agent task first n i k h e =
    let many = length-map-range_with_len (visit agent task) first n in
    sym (get_or-map visit_line (visits_from agent task first n) i (visit agent task k) [] (omega arith)
    ∙ (let here : get_or (visits_from agent task first n) i (visit agent task k) ≡ visit agent task k = get_or-map-range_with_len (visit agent task) first n i k (visit agent task k) h e in
    ap visit_line here))

pub returns-in_err-tell_notice-clause-err : goal.returns-in_err-tell_notice-clause-err
returns-in_err-tell_notice-clause-err g c =
    let before = g.W.Write.contents c.loop-visit.writer in
    let after = g.W.Write.contents c.tell_notice.new.writer in
    let n = c.args.end - c.args.first in
    let i = c.loop-visit.visit - c.args.first in
    let low = c.loop-visit.invariant.low in
    let inside = c.loop-visit-test.true in
    let many = size c.args.agent c.args.task c.args.first n in
    let h : i < n = omega arith in
    on_err_of _ (lines_front (g.W.Write.contents c.args.writer.now) before after (visit_lines (visits_from c.args.agent c.args.task c.args.first n)) i [] (omega arith) c.loop-visit.invariant.told
    (subst (λ (l : List ℕ). WritesFront before after (reply_line l)) (piece c.args.agent c.args.task c.args.first n i c.loop-visit.visit h (omega arith)) c.in_err-tell_notice.ensures.err))

pub loop-visit-preserved : goal.loop-visit-preserved
loop-visit-preserved g c =
    let before = g.W.Write.contents c.loop-visit.writer in
    let after = g.W.Write.contents c.tell_notice.new.writer in
    let n = c.args.end - c.args.first in
    let i = c.loop-visit.visit - c.args.first in
    let low = c.loop-visit.invariant.low in
    let inside = c.loop-visit-test.true in
    let many = size c.args.agent c.args.task c.args.first n in
    let h : i < n = omega arith in
    let next : i + 1 ≡ c.loop-visit.visit + 1 - c.args.first = omega arith in
    record {
      low = omega arith;
      told = subst (λ k. Appends (g.W.Write.contents c.args.writer.now) after (text_of (take k (visit_lines (visits_from c.args.agent c.args.task c.args.first n))))) next
          (lines_more (g.W.Write.contents c.args.writer.now) before after (visit_lines (visits_from c.args.agent c.args.task c.args.first n)) i [] (omega arith) c.loop-visit.invariant.told
          (subst (λ (l : List ℕ). Appends before after (reply_line l)) (piece c.args.agent c.args.task c.args.first n i c.loop-visit.visit h (omega arith)) c.in_ok-tell_notice.ensures.ok));
    }

pub returns-clause-ok : goal.returns-clause-ok
returns-clause-ok g c =
    let n = c.args.end - c.args.first in
    let past = c.loop-visit-test.false in
    let many = size c.args.agent c.args.task c.args.first n in
    subst (λ (ls : List (List ℕ)). Appends (g.W.Write.contents c.args.writer.now) (g.W.Write.contents c.loop-visit.writer) (text_of ls))
    (take_all (c.loop-visit.visit - c.args.first) (visit_lines (visits_from c.args.agent c.args.task c.args.first n)) (omega arith)) c.loop-visit.invariant.told
