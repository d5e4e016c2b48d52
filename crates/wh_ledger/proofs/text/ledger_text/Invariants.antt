use Rattle.std.proofs.Common.{◌≡◌, take}
use Rattle.wh_ledger.specs.LedgerTexts as spec
use Rattle.wh_ledger.proofs.text.ledger_text.Given as goal

abbrev pub invariant-loop-row : goal.invariant-loop-row
invariant-loop-row l = l.out.items ≡ spec.ledger_text (take l.row-index l.rows)
