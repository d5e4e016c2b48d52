-- What was read is a front of what the file holds.
use Rattle.std.proofs.Common.{◌≡◌}
use Rattle.std.specs.Prelude.{IfSome}
use Rattle.wh_resume.specs.Resuming.{IsFront}
use Rattle.wh_continue.proofs.beside.read_within.Given as goal

abbrev pub invariant-loop : goal.invariant-loop
invariant-loop g l = (g.S.Source.held l.file ≡ g.S.Source.held l.fn.file) × IfSome (g.S.Source.held l.fn.file) (IsFront l.held.items)
