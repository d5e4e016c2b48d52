-- why a script was not served to its end
use Rattle.wh_session.specs.declared.fault.SessionFault.{SessionFault}
use Rattle.wh_session.specs.declared.fault.SessionFault.TheVariants as session
use Rattle.wh_convoy.specs.declared.fault.ConvoyFault.{ConvoyFault}
use Rattle.wh_convoy.specs.declared.fault.ConvoyFault.TheVariants.{Broken, Endless, Unwritten, Unkept, NoMemory}

-- the fault of a script by that of its session
abbrev pub fault_by : SessionFault → ConvoyFault
fault_by session.Broken = Broken
fault_by session.Endless = Endless
fault_by session.Unwritten = Unwritten
fault_by session.Unkept = Unkept
fault_by session.NoMemory = NoMemory
fault_by session.Failed = NoMemory
