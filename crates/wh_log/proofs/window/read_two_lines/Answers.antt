use Rattle.std.proofs.Common.{rules, inl, inr, refl}
use Rattle.wh_log.proofs.Sources.{reads_head, reads_further}
use Rattle.wh_log.proofs.window.read_two_lines.Goals as goal
use Rattle.wh_log.proofs.window.read_two_lines.Goals.{then-ended-via-then-ended, then-ended-via-else-ended+then-eq}

pub returns-then-ended-clause-ok : goal.returns-then-ended-clause-ok
returns-then-ended-clause-ok g c = reads_head _ _ _ _ _ c.loop.ended c.lines_standing-stands.result c.loop.invariant.1 (search rules) (elim c.then-ended.branch [
  | then-ended-via-then-ended w ↦ inl (search rules)
  | then-ended-via-else-ended+then-eq w ↦ inr (search rules)
])

pub loop-preserved : goal.loop-preserved
loop-preserved g c = (
  search rules,
  reads_further _ _ _ _ _ _ _ _ c.loop.ended c.in_ok-ended.ended c.in_ok-ended.ended c.loop.invariant.0 refl c.loop.invariant.1 c.in_ok-ended.ensures.ok,
)
