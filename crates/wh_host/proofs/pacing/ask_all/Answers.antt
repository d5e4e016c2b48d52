use Rattle.std.proofs.Common.{length}
use Rattle.wh_crew.specs.Turns.{nobody}
use Rattle.wh_host.proofs.Turning.{starved_asking}
use Rattle.wh_host.proofs.pacing.ask_all.Goals as goal

pub returns-in_default-clause-err : goal.returns-in_default-clause-err
returns-in_default-clause-err g c = starved_asking g.N.DeskName.origin (length g.N.DeskName.cells) c.args.entries c.args.pass.now (nobody g.N.DeskName.origin)
