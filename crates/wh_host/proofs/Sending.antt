-- What a run is handed may cross to a thread.
use denote.Param.Send.{IsSync, sendable}
use Rattle.std.proofs.Crossing.{crosses}
use Rattle.wh_display.specs.contracts.watching.Bell as bell

pub bell_sync : IsSync bell.the_row
bell_sync = search (sendable, crosses) depth 60 fits 20000
