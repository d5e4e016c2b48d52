use Rattle.std.proofs.Common.{◌≡◌, ◌≤◌, take}
use Rattle.std.specs.List.{count_by}
use Rattle.wh_dispatch.specs.Crews.{is_under_way}
use Rattle.wh_dispatch.proofs.fleet.Vehicles.on_their_way.Given as goal

abbrev pub invariant-loop-agent : goal.invariant-loop-agent
invariant-loop-agent l = record {
  is : l.count ≡ count_by is_under_way (take l.agent l.self.order.vehicles);
  few : l.count ≤ l.agent;
}
