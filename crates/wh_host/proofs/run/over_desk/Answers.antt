use Rattle.std.proofs.Common.{◌≡◌, refl, ℕ, List, length, ap, sym, ◌∙◌, subst}
use mathlib.Core.List.{IsPrefix}
use Rattle.wh_board.specs.Pasts.{Past, Known, Extends}
use Rattle.wh_event.specs.declared.entry.Entry.{Entry}
use Rattle.wh_desk.specs.Calls.{InOrder}
use Rattle.wh_serve.specs.Texts.{receipt_text}
use Rattle.wh_host.specs.Hosting.{Leaves}
use Rattle.wh_host.proofs.Boards.{if_four, if_ok, if_some}
use Rattle.wh_host.proofs.Keeping.{all_keep}
use Rattle.wh_host.proofs.Turning.{clients_few}
use Rattle.wh_host.proofs.run.over_desk.Goals as goal

-- of two pasts of which one extends the other, the histories
begun : (p q : Past) (xs ys : List Entry) → Extends p q → p.history ≡ xs → q.history ≡ ys → IsPrefix xs ys
begun p q xs ys e a b = subst (λ (zs : List Entry). IsPrefix zs ys) a (subst (λ (zs : List Entry). IsPrefix p.history zs) b e.1)

pub host_beside-requires-clause-viewer : goal.host_beside-requires-clause-viewer
host_beside-requires-clause-viewer g c κs within = if_some c.args.outfit.watch c.requires.viewer (λ w v. v.0)

pub host_beside-requires-clause-shown : goal.host_beside-requires-clause-shown
host_beside-requires-clause-shown g c κs within = if_some c.args.outfit.watch c.requires.viewer (λ w v. ap length c.history.ensures.value ∙ sym (ap (λ (p : Past). length p.history) v.1))

pub returns-in-Ok-host_beside-clause-ok : goal.returns-in-Ok-host_beside-clause-ok
returns-in-Ok-host_beside-clause-ok g c =
    let done = c.in-Ok-host_beside.ensures in
    let hosted = c.in-Ok-host_beside.came.hosted in
    let many = sym c.requires.callers in
    let passes = c.in-Ok.opened.1.items in
    let earlier = c.args.warehouse.book.history in
    let order = subst (λ (n : ℕ). InOrder n passes) many c.in-Ok.ensures.order in
    let known = ap (λ (k : Known). k.past.history) c.again-earlier.ensures ∙ ap (λ (p : Past). p.history) (c.front.ensures.past ∙ c.requires.added) in
    let told = c.compare.ensures in
    if_four c.compare.result told.history told.connections told.worker told.begins (λ r same counts worked first.
    let left : r.history.front.past.history ≡ hosted.history.front.past.history = rw same refl in
    let begins = begun c.again-earlier.result.past r.history.front.past earlier hosted.history.warehouse.book.history first known (left ∙ ap (λ (p : Past). p.history) done.past) in
    let leaves = subst (λ (n : ℕ). Leaves g.P.Plans.fits_map g.P.Plans.slot_count (receipt_text c.args.form g.N.DeskName.origin) (λ x. g.R.Read.remaining x) (λ x. g.W.Write.contents x) g.N.DeskName.origin (length g.N.DeskName.cells) n c.args.clients.items passes c.args.pace
    hosted.history.warehouse.book.history hosted.history.warehouse.book.state hosted.connections.items hosted.worker) many done.leaves in
    rw (same, counts, worked) (record {
      begins = begins;
      passes = passes;
      in_order = order;
      had = c.in-Ok.ensures.lists;
      leaves = leaves;
      allowed = all_keep (length g.N.DeskName.cells) g.P.Plans.fits_map g.P.Plans.slot_count g.N.DeskName.origin.site.grid (receipt_text c.args.form g.N.DeskName.origin hosted.history.warehouse.book.history) (λ x. g.R.Read.remaining x) (λ x. g.W.Write.contents x)
          c.args.clients.items _ passes earlier hosted.history.warehouse.book.history hosted.connections.items (clients_few c.args.clients.items c.args.pace) order c.in-Ok.ensures.lists leaves.served;
    }))

pub returns-in-Ok-host_beside-clause-journal : goal.returns-in-Ok-host_beside-clause-journal
returns-in-Ok-host_beside-clause-journal g c =
    c.compare.ensures.journal g.S.JournalName.start (record {
      within = c.into_journal.ensures.within;
      holds = c.into_journal.ensures.holds;
      safe_within = c.into_journal.ensures.safe_within;
      safe = c.into_journal.ensures.safe;
    })

pub returns-in-Ok-host_beside-clause-origin : goal.returns-in-Ok-host_beside-clause-origin
returns-in-Ok-host_beside-clause-origin g c =
    let done = c.in-Ok-host_beside.ensures in
    if_ok c.compare.result c.compare.ensures.history (λ r same. rw same done.origin)

pub returns-in-Ok-host_beside-clause-boards : goal.returns-in-Ok-host_beside-clause-boards
returns-in-Ok-host_beside-clause-boards g c =
    let boards = c.in-Ok-host_beside.ensures.boards _ (if_some c.args.outfit.watch c.requires.viewer (λ w v. v.1)) in
    let told = c.compare.ensures in
    if_four c.compare.result told.history told.screen told.history told.history (λ r same screen again once. rw (same, screen.0, screen.1) boards)
