use Rattle.std.proofs.Common.{inr}
use Rattle.std.specs.Prelude.{None}
use Rattle.wh_handover.proofs.chain.link.Goals as goal

pub returns-in-Err-clause-fault : goal.returns-in-Err-clause-fault
returns-in-Err-clause-fault c = c.in-Err.ensures.fault c.args.setting

pub returns-in-Err-recovered-clause-fault : goal.returns-in-Err-recovered-clause-fault
returns-in-Err-recovered-clause-fault c = inr (c.in-Err-recovered.fault, c.in-Err-recovered.ensures.fault None, c.fault_of.ensures)
