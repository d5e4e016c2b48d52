use Rattle.std.proofs.Common.{◌≡◌}
use Rattle.wh_log.proofs.Growing.{Follows}
use Rattle.wh_log.proofs.front_log.follow_entries.Given as goal

abbrev pub invariant-loop : goal.invariant-loop
invariant-loop g l = (g.S.Source.held l.source ≡ g.S.Source.held l.fn.source)
    × Follows g.J.Judge.opens g.J.Judge.steps (g.S.Source.held l.fn.source) l.fn.version l.fn.window.place l.fn.window.bytes.items l.fn.judge l.ended l.window.place l.window.bytes.items l.count l.judge
