use Rattle.std.proofs.Common.{rules, refl, sym, subst, arith}
use Rattle.wh_resume.proofs.Reading.{front_more, reads_on, reads_enough, reads_all}
use Rattle.wh_resume.proofs.title.read_from.Goals as goal

pub loop-preserved : goal.loop-preserved
loop-preserved g c = (
  search rules,
  reads_on _ _ c.len-place.result c.loop.read.items c.add_piece.new.buffer.items c.loop.invariant.0 (search rules) c.loop.invariant.1 c.in_ok-add_piece.ensures.ok,
  front_more c.args.read.now.items c.loop.read.items c.add_piece.new.buffer.items c.in_ok-add_piece.ensures.ok.piece c.loop.invariant.2 c.in_ok-add_piece.ensures.ok.added,
)
