use Rattle.std.proofs.Common.{[], ◌∷◌, ◌++◌, ◌≡◌, ap, ◌∙◌}
use Rattle.wh_ledger.specs.declared.row.Row.{Row}
use Rattle.wh_ledger.specs.Ledgers.{row_of}
use Rattle.wh_ledger.proofs.Clients.{place-found, rows-added, rows-stay}
use Rattle.wh_ledger.proofs.ledger.row_place.Goals as goal

pub returns-in_ok-push-clause-place : goal.returns-in_ok-push-clause-place
returns-in_ok-push-clause-place c tasks keys_were rows_were =
    let client = c.args.client.now in
    let told = rw c.copy.ensures at c.in_ok-place.ensures.added in
    let row : c.none.result ≡ row_of [] client = c.none.ensures ∙ ap (row_of []) c.copy-then-is_new.ensures in
    let pushed : c.push.new.self.items ≡ c.args.rows.now.items ++ row_of [] client ∷ [] = c.in_ok-push.ensures.items ∙ ap (λ (r : Row). c.args.rows.now.items ++ r ∷ []) row in
    place-found tasks client c.insert_full.new.self.keys c.push.new.self.items c.in_ok-place.place (rw (c.in_ok-place.ensures.keys, keys_were, c.copy.ensures)) c.in_ok-place.ensures.unique
    (rw c.copy.ensures at c.in_ok-place.ensures.stored)
    (pushed ∙ rows-added tasks client c.args.clients.now.keys c.args.rows.now.items c.in_ok-place.is_new c.if-is_new.true told keys_were rows_were)

pub returns-else-is_new-clause-place : goal.returns-else-is_new-clause-place
returns-else-is_new-clause-place c tasks keys_were rows_were =
    let client = c.args.client.now in
    let told = rw c.copy.ensures at c.in_ok-place.ensures.added in
    place-found tasks client c.insert_full.new.self.keys c.args.rows.now.items c.in_ok-place.place (rw (c.in_ok-place.ensures.keys, keys_were, c.copy.ensures)) c.in_ok-place.ensures.unique
    (rw c.copy.ensures at c.in_ok-place.ensures.stored)
    (rows-stay tasks client c.args.clients.now.keys c.args.rows.now.items c.in_ok-place.is_new c.if-is_new.false told keys_were rows_were)
