use Rattle.std.proofs.Common.{◌≡◌, [], ◌∷◌, ◌++◌, length, ap, sym, ◌∙◌, arith, subst, Some}
use Rattle.std.proofs.lemmas.List.{length_push, length-map}
use Rattle.std.proofs.lemmas.Option.{slice_get-get_or}
use Rattle.wh_desk.specs.declared.pass.Row.{Row}
use Rattle.wh_desk.specs.Lists.{AllAt, entries_of}
use Rattle.wh_desk.specs.Kept.{RowOf, pair_of}
use Rattle.wh_desk.proofs.Entries.{AllAt_push}
use Rattle.wh_desk.proofs.earlier.rows_of.Goals as goal

pub loop-own-preserved : goal.loop-own-preserved
loop-own-preserved c =
    let inv = c.loop-own.invariant in
    let owns = c.args.owns.now in
    let i = c.loop-own.own-index in
    let own = c.own-item.result in
    let rows = c.loop-own.rows.items in
    let row : Row = record { count = c.len.result; last = own.last } in
    let pushed : c.push.new.self.items ≡ rows ++ row ∷ [] = c.in_ok-push.ensures.items in (
      omega (arith, ap length pushed, length_push rows row, inv.0),
      λ names history all.
          let o = all i own (slice_get-get_or owns i own (omega arith) ∙ ap Some (sym c.own-item.is)) in
          let counted : c.len.result ≡ length (entries_of history i) = omega (arith, c.len.ensures, ap length o.receipts, length-map own.held.items pair_of) in
          subst (λ l. AllAt (λ caller r. RowOf (entries_of history caller) r) l) (sym pushed)
          (AllAt_push (λ caller r. RowOf (entries_of history caller) r) rows row (inv.1 names history all)
          (subst (λ k. RowOf (entries_of history k) row) (sym inv.0) (counted, o.last_is))),
    )
