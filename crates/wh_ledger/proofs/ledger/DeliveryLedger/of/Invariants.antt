use Rattle.std.proofs.Common.{◌≡◌, All, take}
use Rattle.wh_ledger.specs.Ledgers.{clients_of, rows_of}
use Rattle.wh_ledger.specs.Places.{IsWithin}
use Rattle.wh_ledger.proofs.ledger.DeliveryLedger.of.Given as goal

abbrev pub invariant-loop-n : goal.invariant-loop-n
invariant-loop-n l = record {
  clients : l.clients.keys ≡ clients_of (take l.n l.tasks.tasks);
  rows : l.rows.items ≡ rows_of (take l.n l.tasks.tasks);
  within : All (IsWithin l.n) l.rows.items;
}
