use Rattle.std.proofs.Common.{rules, true, false}
use Rattle.wh_log.proofs.Sources.{reads_further}
use Rattle.wh_log.proofs.window.read_on.Goals as goal

pub returns-then-branch-clause-ok : goal.returns-then-branch-clause-ok
returns-then-branch-clause-ok g c = reads_further _ _ _ _ _ _ _ _ false c.in_ok-read_piece.field-0 true c.loop.invariant.0 (search rules) c.loop.invariant.1 c.in_ok-read_piece.ensures.ok

pub returns-then-len-known-clause-ok : goal.returns-then-len-known-clause-ok
returns-then-len-known-clause-ok g c = reads_further _ _ _ _ _ _ _ _ false c.in_ok-read_piece.field-0 false c.loop.invariant.0 (search rules) c.loop.invariant.1 c.in_ok-read_piece.ensures.ok

pub loop-preserved : goal.loop-preserved
loop-preserved g c = (
  search rules,
  reads_further _ _ _ _ _ _ _ _ false c.in_ok-read_piece.field-0 false c.loop.invariant.0 (search rules) c.loop.invariant.1 c.in_ok-read_piece.ensures.ok,
)
