use Rattle.std.proofs.Common.{◌∙◌, sym, ap, length, take, drop, ◌++◌, ℕ, arith, true, false, subst}
use Rattle.std.proofs.lemmas.List.{length-append}
use Rattle.wh_lines.specs.Input.{Input, part_len}
use Rattle.wh_lines.specs.Section.{Collects}
use Rattle.wh_lines.proofs.ReadCounts.{more_reads}
use Rattle.std.specs.List.{before_first}
use Rattle.wh_text.specs.Lines.{is_line_feed}
use Rattle.wh_lines.proofs.Collecting.{seen_begun, seen_whole, sectioned_mark, sectioned_end, overflows_end, sectioned_whole, overflows_whole, overflows_begun, collects_whole, collects_begun, line_is}
use Rattle.wh_lines.proofs.sections.collect.Goals as goal

pub returns-then-is_mark-clause-ok : goal.returns-then-is_mark-clause-ok
returns-then-is_mark-clause-ok g c =
    sectioned_mark c.args.lines.now c.append_lines.new.lines c.more_waits.new.lines c.append_lines.new.text.items c.in_ok-start.start (c.in_ok-start.ensures.collects c.args.lines.now c.loop-text.invariant.collects) c.in_ok-start.ensures.within c.in_ok-more_waits.ensures.left c.truncate.new.self.items (c.in_ok-more_waits.ensures.end c.if-not-branch.true) (seen_begun c.is_mark.result true c.deref.result.now c.append_lines.new.text.items c.in_ok-start.start c.is_mark.ensures c.deref.ensures.value c.if-is_mark.true) c.truncate.ensures.items

pub returns-then-len-limit-clause-too_long : goal.returns-then-len-limit-clause-too_long
returns-then-len-limit-clause-too_long g c =
    λ _. overflows_end c.args.lines.now c.append_lines.new.lines c.more_waits.new.lines c.append_lines.new.text.items c.in_ok-start.start (c.in_ok-start.ensures.collects c.args.lines.now c.loop-text.invariant.collects) c.in_ok-start.ensures.within c.in_ok-more_waits.ensures.left c.args.limit (c.in_ok-more_waits.ensures.end c.if-not-branch.true) (seen_begun c.is_mark.result false c.deref.result.now c.append_lines.new.text.items c.in_ok-start.start c.is_mark.ensures c.deref.ensures.value c.if-is_mark.false) (omega (arith, c.append_lines.new.text.ok.0))

pub returns-then-not-branch-clause-ok : goal.returns-then-not-branch-clause-ok
returns-then-not-branch-clause-ok g c =
    sectioned_end c.args.lines.now c.append_lines.new.lines c.more_waits.new.lines c.append_lines.new.text.items c.in_ok-start.start (c.in_ok-start.ensures.collects c.args.lines.now c.loop-text.invariant.collects) c.in_ok-start.ensures.within c.in_ok-more_waits.ensures.left (c.in_ok-more_waits.ensures.end c.if-not-branch.true) (seen_begun c.is_mark.result false c.deref.result.now c.append_lines.new.text.items c.in_ok-start.start c.is_mark.ensures c.deref.ensures.value c.if-is_mark.false)

pub returns-then-is_mark-2-clause-ok : goal.returns-then-is_mark-2-clause-ok
returns-then-is_mark-2-clause-ok g c =
    sectioned_whole c.args.lines.now c.append_lines.new.lines c.more_waits.new.lines c.append_lines.new.text.items c.in_ok-start.start (c.in_ok-start.ensures.collects c.args.lines.now c.loop-text.invariant.collects) c.in_ok-start.ensures.within c.in_ok-more_waits.ensures.left c.append_part.new.lines c.append_part.new.text.items c.in-Ok.whole c.in-Ok.ensures.text c.in-Ok.ensures.lines c.in-Ok.ensures.whole c.truncate-then-is_mark-2.new.self.items c.if-not-whole.false (seen_whole c.is_mark-in-loop-text.result true c.deref-in-loop-text.result.now c.append_part.new.text.items (drop c.in_ok-start.start c.append_lines.new.text.items ++ before_first is_line_feed c.more_waits.new.lines.waiting) c.in_ok-start.start c.len-in-loop-text.result c.is_mark-in-loop-text.ensures c.deref-in-loop-text.ensures.value (c.len-in-loop-text.ensures ∙ c.append_part.new.text.ok.0) (line_is c.args.lines.now c.append_lines.new.lines c.more_waits.new.lines c.append_lines.new.text.items c.in_ok-start.start (c.in_ok-start.ensures.collects c.args.lines.now c.loop-text.invariant.collects) c.in_ok-start.ensures.within c.in_ok-more_waits.ensures.left c.append_part.new.lines c.append_part.new.text.items c.in-Ok.whole c.in-Ok.ensures.text c.in-Ok.ensures.lines c.in-Ok.ensures.whole c.if-not-whole.false) c.if-is_mark-2.true) c.truncate-then-is_mark-2.ensures.items

pub returns-then-len-limit-2-clause-too_long : goal.returns-then-len-limit-2-clause-too_long
returns-then-len-limit-2-clause-too_long g c =
    λ _. overflows_whole c.args.lines.now c.append_lines.new.lines c.more_waits.new.lines c.append_lines.new.text.items c.in_ok-start.start (c.in_ok-start.ensures.collects c.args.lines.now c.loop-text.invariant.collects) c.in_ok-start.ensures.within c.in_ok-more_waits.ensures.left c.append_part.new.lines c.append_part.new.text.items c.in-Ok.whole c.in-Ok.ensures.text c.in-Ok.ensures.lines c.in-Ok.ensures.whole c.args.limit c.if-not-whole.false (seen_whole c.is_mark-in-loop-text.result false c.deref-in-loop-text.result.now c.append_part.new.text.items (drop c.in_ok-start.start c.append_lines.new.text.items ++ before_first is_line_feed c.more_waits.new.lines.waiting) c.in_ok-start.start c.len-in-loop-text.result c.is_mark-in-loop-text.ensures c.deref-in-loop-text.ensures.value (c.len-in-loop-text.ensures ∙ c.append_part.new.text.ok.0) (line_is c.args.lines.now c.append_lines.new.lines c.more_waits.new.lines c.append_lines.new.text.items c.in_ok-start.start (c.in_ok-start.ensures.collects c.args.lines.now c.loop-text.invariant.collects) c.in_ok-start.ensures.within c.in_ok-more_waits.ensures.left c.append_part.new.lines c.append_part.new.text.items c.in-Ok.whole c.in-Ok.ensures.text c.in-Ok.ensures.lines c.in-Ok.ensures.whole c.if-not-whole.false) c.if-is_mark-2.false) (omega (arith, c.append_part.new.text.ok.0))

pub returns-then-saturating_sub-limit-clause-too_long : goal.returns-then-saturating_sub-limit-clause-too_long
returns-then-saturating_sub-limit-clause-too_long g c =
    λ _. overflows_begun c.args.lines.now c.append_lines.new.lines c.more_waits.new.lines c.append_lines.new.text.items c.in_ok-start.start (c.in_ok-start.ensures.collects c.args.lines.now c.loop-text.invariant.collects) c.in_ok-start.ensures.within c.in_ok-more_waits.ensures.left c.append_part.new.lines c.append_part.new.text.items c.in-Ok.whole c.in-Ok.ensures.text c.in-Ok.ensures.lines c.in-Ok.ensures.whole c.args.limit c.if-not-whole.true c.in_ok-start.ensures.bound (omega (arith, c.append_part.new.text.ok.0))

pub loop-text-preserved-then-not-whole : goal.loop-text-preserved-then-not-whole
loop-text-preserved-then-not-whole g c =
    record {
      collects = collects_begun c.args.lines.now c.append_lines.new.lines c.more_waits.new.lines c.append_lines.new.text.items c.in_ok-start.start (c.in_ok-start.ensures.collects c.args.lines.now c.loop-text.invariant.collects) c.in_ok-start.ensures.within c.in_ok-more_waits.ensures.left c.append_part.new.lines c.append_part.new.text.items c.in-Ok.whole c.in-Ok.ensures.text c.in-Ok.ensures.lines c.in-Ok.ensures.whole c.if-not-whole.true;
      within = omega (arith, ap length c.in-Ok.ensures.text, length-append c.append_lines.new.text.items (take (part_len c.more_waits.new.lines.waiting) c.more_waits.new.lines.waiting), c.in_ok-start.ensures.within);
      bound = c.in_ok-start.ensures.bound;
      reads = omega (arith, more_reads c.append_lines.new.lines c.more_waits.new.lines c.in_ok-more_waits.ensures.goes_on, ap (λ (i : Input). i.reads) c.in-Ok.ensures.lines, ap (λ (i : Input). i.reads) c.append_lines.ensures.lines.1, c.loop-text.invariant.reads);
      failed = ap (λ (i : Input). i.failed) c.in-Ok.ensures.lines ∙ c.in_ok-more_waits.ensures.failed ∙ ap (λ (i : Input). i.failed) c.append_lines.ensures.lines.1 ∙ c.loop-text.invariant.failed;
      ended = ap (λ (i : Input). i.ended) c.in-Ok.ensures.lines ∙ c.in_ok-more_waits.ensures.ended ∙ ap (λ (i : Input). i.ended) c.append_lines.ensures.lines.1 ∙ c.loop-text.invariant.ended;
    }

pub loop-text-preserved : goal.loop-text-preserved
loop-text-preserved g c =
    let long = c.len-start.ensures ∙ c.append_part.new.text.ok.0 in
    record {
      collects = subst (λ (n : ℕ). Collects c.args.lines.now c.append_part.new.lines c.append_part.new.text.items n) (sym long) (collects_whole c.args.lines.now c.append_lines.new.lines c.more_waits.new.lines c.append_lines.new.text.items c.in_ok-start.start (c.in_ok-start.ensures.collects c.args.lines.now c.loop-text.invariant.collects) c.in_ok-start.ensures.within c.in_ok-more_waits.ensures.left c.append_part.new.lines c.append_part.new.text.items c.in-Ok.whole c.in-Ok.ensures.text c.in-Ok.ensures.lines c.in-Ok.ensures.whole c.if-not-whole.false (seen_whole c.is_mark-in-loop-text.result false c.deref-in-loop-text.result.now c.append_part.new.text.items (drop c.in_ok-start.start c.append_lines.new.text.items ++ before_first is_line_feed c.more_waits.new.lines.waiting) c.in_ok-start.start c.len-in-loop-text.result c.is_mark-in-loop-text.ensures c.deref-in-loop-text.ensures.value (c.len-in-loop-text.ensures ∙ c.append_part.new.text.ok.0) (line_is c.args.lines.now c.append_lines.new.lines c.more_waits.new.lines c.append_lines.new.text.items c.in_ok-start.start (c.in_ok-start.ensures.collects c.args.lines.now c.loop-text.invariant.collects) c.in_ok-start.ensures.within c.in_ok-more_waits.ensures.left c.append_part.new.lines c.append_part.new.text.items c.in-Ok.whole c.in-Ok.ensures.text c.in-Ok.ensures.lines c.in-Ok.ensures.whole c.if-not-whole.false) c.if-is_mark-2.false));
      within = omega (arith, long);
      bound = omega (arith, long, c.append_part.new.text.ok.0, c.if-len-limit-2.false, c.len-in-loop-text-2.ensures);
      reads = omega (arith, more_reads c.append_lines.new.lines c.more_waits.new.lines c.in_ok-more_waits.ensures.goes_on, ap (λ (i : Input). i.reads) c.in-Ok.ensures.lines, ap (λ (i : Input). i.reads) c.append_lines.ensures.lines.1, c.loop-text.invariant.reads);
      failed = ap (λ (i : Input). i.failed) c.in-Ok.ensures.lines ∙ c.in_ok-more_waits.ensures.failed ∙ ap (λ (i : Input). i.failed) c.append_lines.ensures.lines.1 ∙ c.loop-text.invariant.failed;
      ended = ap (λ (i : Input). i.ended) c.in-Ok.ensures.lines ∙ c.in_ok-more_waits.ensures.ended ∙ ap (λ (i : Input). i.ended) c.append_lines.ensures.lines.1 ∙ c.loop-text.invariant.ended;
    }
