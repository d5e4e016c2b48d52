use Rattle.std.proofs.Common.{◌≤◌, max}
use Rattle.wh_drive.specs.Drives.{Drive}
use Rattle.wh_order.specs.Orders.{Represents}
use Rattle.wh_vehicles.proofs.Arriving.{Came}
use Rattle.wh_vehicles.proofs.driving.answer_report.Given as goal

abbrev pub invariant-loop-step : goal.invariant-loop-step
invariant-loop-step l = record {
  came : (d : Drive) → Represents l.initial.order d → Came d l.agent l.step l.order;
  no_further : l.step ≤ max l.initial.step l.report.step;
}
