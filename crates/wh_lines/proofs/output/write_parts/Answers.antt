use Rattle.wh_lines.proofs.Written.{wrote_rest, rest_long}
use Rattle.wh_lines.proofs.output.write_parts.Goals as goal

pub loop-preserved : goal.loop-preserved
loop-preserved g c = record {
  within = rest_long c.args.bytes.now c.loop.done c.in_ok-done.field-0 c.loop.invariant.within c.in_ok-done.ensures.bound;
  wrote = wrote_rest (g.W.Write.contents c.args.writer.now) (g.W.Write.contents c.loop.writer) (g.W.Write.contents c.write_front.new.writer) c.args.bytes.now c.loop.done c.in_ok-done.field-0 c.loop.invariant.wrote c.in_ok-done.ensures.ok;
}
