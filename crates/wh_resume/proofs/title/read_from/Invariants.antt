-- What was read is a front of what the source has.
use Rattle.std.proofs.Common.{◌≡◌}
use Rattle.std.specs.Prelude.{IfSome}
use Rattle.wh_resume.specs.Resuming.{IsFront}
use Rattle.wh_resume.proofs.title.read_from.Given as goal

abbrev pub invariant-loop : goal.invariant-loop
invariant-loop g l = (g.S.Source.held l.source ≡ g.S.Source.held l.fn.source) × IfSome (g.S.Source.held l.fn.source) (IsFront l.read.items) × IsFront l.fn.read.items l.read.items
