use Rattle.std.proofs.Common.{None, Some, refl}
use Rattle.wh_program.proofs.running.drive_by_name.Goals as goal

-- files tell no bytes
pub returns-in-Ok : goal.returns-in-Ok
returns-in-Ok g c = rw c.in-Some.is (Some (record { log = None; site = None; arrivals = None }), refl, c.drive_over-in-Ok.ensures)
