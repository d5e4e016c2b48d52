use Rattle.std.proofs.Common.{◌≡◌, ◌<◌, ℕ, length}
use Rattle.wh_path.specs.Paths.{cell_at}
use Rattle.wh_drive.specs.Drives.{Drive, place}
use Rattle.wh_order.specs.Orders.{Represents}
use Rattle.wh_service.proofs.standing.places_of.Given as goal

abbrev pub invariant-loop-agent : goal.invariant-loop-agent
invariant-loop-agent l = record {
  many : length l.places.items ≡ l.agent;
  there : (d : Drive) → Represents l.order d → (agent : ℕ) → agent < length l.places.items → cell_at l.places.items agent ≡ place d agent;
}
