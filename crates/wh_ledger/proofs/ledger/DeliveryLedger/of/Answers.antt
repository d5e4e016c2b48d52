use Rattle.std.proofs.Common.{◌≡◌, ◌+◌, [], ◌∷◌, ◌++◌, take, arith, sym, ap, ◌∙◌, subst}
use Rattle.std.proofs.lemmas.List.{take_more}
use Rattle.std.proofs.lemmas.List.Elements.{All-set}
use Rattle.std.proofs.lemmas.Option.{slice_get_within, get_or_from_slice_get}
use Rattle.wh_tasks.specs.declared.task.Task.{Task}
use Rattle.wh_ledger.specs.declared.row.Row.{Row}
use Rattle.wh_ledger.specs.Ledgers.{row_of, rows_of, clients_of}
use Rattle.wh_ledger.specs.Places.{IsWithin}
use Rattle.wh_ledger.proofs.Clients.{placed-row, placed-below, more-within, rows-counted, clients_of-push}
use Rattle.wh_ledger.proofs.ledger.DeliveryLedger.of.Goals as goal

pub count-requires-clause-within : goal.count-requires-clause-within
count-requires-clause-within c =
    let place = c.in_ok-place.ensures.place (take c.loop-n.n c.args.tasks.now.tasks) c.loop-n.invariant.clients c.loop-n.invariant.rows in
    let all = c.in_ok-place.ensures.within c.loop-n.n c.loop-n.invariant.within in
    let row = c.index_mut.result.now in
    let within : IsWithin c.loop-n.n row = subst (IsWithin c.loop-n.n) (sym c.index_mut.ensures.value) (all c.in_ok-place.place row (placed-below place)) in
    more-within c.loop-n.n 999999 row (omega (arith, c.loop-n-test.true, c.len-n-end.ensures.few)) within

pub loop-n-preserved : goal.loop-n-preserved
loop-n-preserved c =
    let all = c.args.tasks.now.tasks in
    let tasks = take c.loop-n.n all in
    let task = c.task-task.result.now in
    let more : take (c.loop-n.n + 1) all ≡ tasks ++ task ∷ [] =
    take_more all c.loop-n.n task (slice_get_within all c.loop-n.n task c.task-task.ensures.task)
    ∙ ap (λ (t : Task). tasks ++ t ∷ []) (get_or_from_slice_get all c.loop-n.n task task c.task-task.ensures.task) in
    let place = c.in_ok-place.ensures.place tasks c.loop-n.invariant.clients c.loop-n.invariant.rows in
    let was : c.index_mut.result.now ≡ row_of tasks task.client = placed-row place c.index_mut.result.now c.index_mut.ensures.value in
    let client : c.index_mut.result.now.client ≡ task.client = ap (λ (r : Row). r.client) was in
    let old : c.index_mut.result.now ≡ row_of tasks c.index_mut.result.now.client = was ∙ ap (row_of tasks) (sym client) in
    let new : c.count.new.self ≡ row_of (tasks ++ task ∷ []) task.client = c.count.ensures.row tasks old ∙ ap (row_of (tasks ++ task ∷ [])) client in
    let within_all = c.in_ok-place.ensures.within c.loop-n.n c.loop-n.invariant.within in
    let within_row : IsWithin c.loop-n.n c.index_mut.result.now = subst (IsWithin c.loop-n.n) (sym c.index_mut.ensures.value) (within_all c.in_ok-place.place c.index_mut.result.now (placed-below place)) in
    record {
      clients = place.keys_are ∙ sym (clients_of-push tasks task) ∙ ap clients_of (sym more);
      rows = rows-counted task place c.count.new.self new ∙ ap rows_of (sym more);
      within = All-set (IsWithin (c.loop-n.n + 1)) c.row_place.new.rows.items c.in_ok-place.place c.count.new.self (c.count.ensures.within c.loop-n.n within_row)
          (λ k d h. more-within c.loop-n.n (c.loop-n.n + 1) _ (omega arith) (within_all k d h));
    }
