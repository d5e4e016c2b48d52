use Rattle.std.proofs.Common.{◌≡◌, false}
use Rattle.wh_log.specs.Sources.{ReadsOn}
use Rattle.wh_log.proofs.window.read_on.Given as goal

abbrev pub invariant-loop : goal.invariant-loop
invariant-loop g l = (g.S.Source.held l.source ≡ g.S.Source.held l.fn.source) × ReadsOn (g.S.Source.held l.fn.source) l.fn.window.place l.fn.window.bytes.items l.window.place l.window.bytes.items false
