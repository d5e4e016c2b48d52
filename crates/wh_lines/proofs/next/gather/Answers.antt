use Rattle.std.proofs.Common.{◌∙◌, ap, arith, rules}
use Rattle.std.proofs.KnownBytes.{Keeps-trans}
use Rattle.wh_lines.specs.Input.{Input}
use Rattle.wh_lines.proofs.ReadCounts.{more_reads}
use Rattle.wh_lines.proofs.Parts.{begun_filled, begun_next, gathered_last, gathered_next}
use Rattle.wh_lines.proofs.next.gather.Goals as goal

pub returns-then-take_part-clause-ok : goal.returns-then-take_part-clause-ok
returns-then-take_part-clause-ok g c =
    gathered_next c.args.lines.now c.loop-line.lines c.more_waits.new.lines c.take_part.new.lines c.loop-line.line c.take_part.new.line c.take_part.result
    c.loop-line.invariant.begun c.more_waits.ensures.left c.take_part.ensures.line c.take_part.ensures.lines c.take_part.ensures.whole c.if-take_part.true

pub returns-else-is_empty-clause-ok : goal.returns-else-is_empty-clause-ok
returns-else-is_empty-clause-ok g c =
    gathered_last c.args.lines.now c.more_waits.new.lines c.loop-line.line
    (begun_filled c.args.lines.now c.loop-line.lines c.more_waits.new.lines c.loop-line.line c.loop-line.invariant.begun c.more_waits.ensures.left)
    (c.in_ok-more_waits.ensures.end c.if-not-branch.true) (search rules)

pub loop-line-preserved : goal.loop-line-preserved
loop-line-preserved g c =
    let same = c.take_part.ensures.lines in
    record {
      begun =
          begun_next c.args.lines.now c.loop-line.lines c.more_waits.new.lines c.take_part.new.lines c.loop-line.line c.take_part.new.line c.take_part.result
          c.loop-line.invariant.begun c.more_waits.ensures.left c.take_part.ensures.line same c.take_part.ensures.whole c.if-take_part.false;
      reads = omega (arith, more_reads c.loop-line.lines c.more_waits.new.lines c.in_ok-more_waits.ensures.goes_on, ap (λ (i : Input). i.reads) same, c.loop-line.invariant.reads);
      failed = ap (λ (i : Input). i.failed) same ∙ c.more_waits.ensures.failed ∙ c.loop-line.invariant.failed;
      ended = ap (λ (i : Input). i.ended) same ∙ c.more_waits.ensures.ended ∙ c.loop-line.invariant.ended;
      writer = Keeps-trans (g.W.Write.contents c.args.writer.now) (g.W.Write.contents c.loop-line.writer) (g.W.Write.contents c.more_waits.new.writer) c.loop-line.invariant.writer c.more_waits.ensures.writer;
    }
