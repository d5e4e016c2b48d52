use Rattle.std.proofs.Common.{arith, ap, sym, subst, ◌∙◌, ◌≡◌, ◌+◌, ◌<◌, ℕ, List, [], ◌∷◌, ◌++◌, length, Some, slice_get, slice_set}
use Rattle.std.proofs.lemmas.List.{length-map, length_push}
use Rattle.once_cell.specs.declared.race.note.Note.{Note}
use Rattle.wh_event.specs.declared.entry.Entry.{Entry}
use Rattle.wh_points.specs.Points.{Site}
use Rattle.wh_token.specs.Fleet.{AllFit, replaced_agent}
use Rattle.wh_core.specs.Steps.{Run}
use Rattle.wh_board.specs.Pasts.{Origin, Past, Extends, grown, origin_of, past_of}
use Rattle.wh_board.proofs.Chains.{extends_same}
use Rattle.wh_desk.specs.Lists.{IsRunFrom, entries_of, last_position, Ledger, Received}
use Rattle.wh_desk.specs.Calls.{HandsBack, IsAskedBy, Reseats}
use Rattle.wh_desk.specs.declared.pass.Held.{Held}
use Rattle.wh_desk.specs.declared.pass.Row.{Row}
use Rattle.wh_desk.specs.Kept.{pair_of, list_of, Filled, NoteKnows, PassKeeps, JournalKeeps}
use Rattle.wh_desk.proofs.Entries.{last_push, entries_push_same}
use Rattle.wh_desk.proofs.Receipts.{pass_push, journal_push, past_same, journal_same, shown_next, either_same}
use Rattle.wh_desk.proofs.Handing.{seated, handed_back, reseats}
use Rattle.wh_desk.proofs.journal.Journal.append.Goals as goal

-- the publisher's book has just this entry more, as the warehouse's has
pub publish-told-requires : goal.publish-told-requires
publish-told-requires g c =
    let e : Entry = c.in-Ok.made.ready.draft.entry in
    let was : Past = past_of c.self.inside.warehouse.book in
    let ready : past_of c.make_ready-made.new.warehouse.book ≡ was = past_same _ _ c.make_ready-made.ensures.same in
    let now : Past = past_of c.commit-entry.new.self.book in
    let done : c.commit-entry.result.entry ≡ e = c.commit-entry.ensures.entry in
    let grows : now.history ≡ c.self.inside.warehouse.book.history ++ e ∷ [] = c.commit-entry.ensures.history ∙ ap (λ (d : Entry). c.make_ready-made.new.warehouse.book.history ++ d ∷ []) done ∙ ap (λ (p : Past). p.history ++ e ∷ []) ready in
    let begins : now.origin ≡ was.origin = (λ i. record { site = c.commit-entry.ensures.stays.site i; opening = c.commit-entry.ensures.stays.opening i }) ∙ ap (λ (p : Past). p.origin) ready in
    let next : now ≡ grown was e = λ i. record { origin = begins i; history = grows i } in
    let longer : c.make_ready-made.new.publisher.added ≡ grown was e = c.in-Ok.ensures.added ∙ ap (λ (p : Past). grown p e) c.self.invariant.added_is in
    let here : past_of c.book.result.now ≡ now = ap past_of c.book.ensures in
    extends_same _ _ (longer ∙ sym next ∙ sym here)

pub make_ready-made-requires-clause-room : goal.make_ready-made-requires-clause-room
make_ready-made-requires-clause-room g c =
    let keeps = c.self.invariant in
    omega (
      arith,
      ap (λ (f : Filled). f.count) keeps.cells_are,
      ap (λ (f : Filled). length f.names) keeps.cells_are,
      keeps.capacity_is,
      ap (λ (s : Ledger g.row.P.Denot). length s.history) c.self.view_is,
      ap (λ (s : Ledger g.row.P.Denot). s.capacity) c.self.view_is,
      c.requires.room,
    )

pub invariant_of-self : goal.invariant_of-self
invariant_of-self g c =
    let made = c.make_ready-made in
    journal_same c.self.invariant (past_of made.new.warehouse.book) made.new.notes.items made.new.cells made.new.publisher (past_same _ _ made.ensures.same) made.ensures.notes made.ensures.names c.in-Err.ensures.count made.ensures.book c.in-Err.ensures.not_added made.ensures.shown

pub invariant_of-pass-2 : goal.invariant_of-pass-2
invariant_of-pass-2 g c =
    let origin = g.N.DeskName.origin in
    let h = c.self.inside.warehouse.book.history in
    let at : ℕ = length c.history.result.now in
    let made = c.in-Ok.made in
    let e : Entry = made.ready.draft.entry in
    let x : Held = c.note_down.ensures.held.0 in
    let at_is : x.position.value ≡ at = c.note_down.ensures.held.2 in
    let e_is : x.entry.value ≡ e = c.note_down.ensures.held.3 ∙ c.entry.ensures in
    let note_is : x.note ≡ made.note = c.note_down.ensures.held.4 in
    let place : length h ≡ at = sym (ap length c.history.ensures.value) in
    let all : list_of c.pass.inside.held.items ≡ entries_of h c.pass.inside.caller = ap (λ v. v.list) c.pass.view_is ∙ c.requires.whole ∙ sym (ap (λ (s : Ledger g.row.P.Denot). entries_of s.history c.args.pass.now.caller) c.self.view_is) ∙ sym (ap (λ (v : Received). entries_of h v.caller) c.pass.view_is) in
    let mine : e.caller ≡ c.pass.inside.caller = c.in-Ok.ensures.caller in
    let items : c.note_down.new.held.items ≡ c.pass.inside.held.items ++ x ∷ [] = c.note_down.ensures.held.1 ∙ ap (λ l. l ++ x ∷ []) c.make_ready-made.ensures.held in
    let front : c.again.result.past.history ≡ h ++ e ∷ [] = ap (λ k. k.past.history) c.again.ensures ∙ ap (λ p. p.history) c.front.ensures.past ∙ ap (λ p. p.history) c.in-Ok.ensures.added ∙ ap (λ (p : Past). p.history ++ e ∷ []) c.self.invariant.added_is in
    let book : c.again.result.book ≡ g.N.DeskName.book = ap (λ k. k.book) c.again.ensures ∙ c.front.ensures.book ∙ c.make_ready-made.ensures.book ∙ c.self.invariant.book_is in
    let filled : c.self.inside.cells ≡ record { names = g.N.DeskName.cells; count = length h } = c.self.invariant.cells_are in
    let cell : slice_get g.N.DeskName.cells at ≡ Some made.note.cell = ap (λ n. slice_get g.N.DeskName.cells n) (sym place) ∙ ap (λ (f : Filled). slice_get f.names f.count) (sym filled) ∙ c.in-Ok.ensures.cell in
    let knows : NoteKnows g.N.DeskName.cells x = record {
      cell = ap (λ n. slice_get g.N.DeskName.cells n) at_is ∙ cell ∙ ap (λ (n : Note Entry). Some n.cell) (sym note_is);
      known = ap (λ (n : Note Entry). n.known) note_is ∙ c.in-Ok.ensures.known ∙ ap Some (sym e_is);
    } in
    let was : Past = past_of c.self.inside.warehouse.book in
    let ready : past_of c.make_ready-made.new.warehouse.book ≡ was = past_same _ _ c.make_ready-made.ensures.same in
    let left = c.commit-entry.new.self.book in
    let done : c.commit-entry.result.entry ≡ e = c.commit-entry.ensures.entry in
    let grows : left.history ≡ h ++ e ∷ [] = c.commit-entry.ensures.history ∙ ap (λ (d : Entry). c.make_ready-made.new.warehouse.book.history ++ d ∷ []) done ∙ ap (λ (p : Past). p.history ++ e ∷ []) ready in
    let begins : origin_of left ≡ origin = (λ i. record { site = c.commit-entry.ensures.stays.site i; opening = c.commit-entry.ensures.stays.opening i }) ∙ ap (λ (p : Past). p.origin) ready ∙ c.self.invariant.origin_is in
    let ran : IsRunFrom origin left.history = (left.state, subst (λ (o : Origin). Run o.site o.opening left.history left.state) begins c.history-run.ensures.run) in
    let run : IsRunFrom origin c.again.result.past.history = subst (λ (l : List Entry). IsRunFrom origin l) (grows ∙ sym front) ran in
    subst (λ l. PassKeeps origin g.N.DeskName.cells g.N.DeskName.book g.N.DeskName.callers c.pass.inside.caller at (at + 1) l c.again.result) (sym items) (pass_push c.pass.invariant h x at e c.again.result at_is e_is all knows place mine book front run)

pub invariant_of-self-2 : goal.invariant_of-self-2
invariant_of-self-2 g c =
    let h = c.self.inside.warehouse.book.history in
    let at : ℕ = length c.history.result.now in
    let made = c.in-Ok.made in
    let e : Entry = made.ready.draft.entry in
    let n = made.note in
    let caller = c.pass.inside.caller in
    let r : Row = record { count = c.len.result; last = at } in
    let x : Held = c.note_down.ensures.held.0 in
    let was : Past = past_of c.self.inside.warehouse.book in
    let ready : past_of c.make_ready-made.new.warehouse.book ≡ was = past_same _ _ c.make_ready-made.ensures.same in
    let now : Past = past_of c.commit-entry.new.self.book in
    let done : c.commit-entry.result.entry ≡ e = c.commit-entry.ensures.entry in
    let grows : now.history ≡ h ++ e ∷ [] = c.commit-entry.ensures.history ∙ ap (λ (d : Entry). c.make_ready-made.new.warehouse.book.history ++ d ∷ []) done ∙ ap (λ (p : Past). p.history ++ e ∷ []) ready in
    let begins : now.origin ≡ was.origin = (λ i. record { site = c.commit-entry.ensures.stays.site i; opening = c.commit-entry.ensures.stays.opening i }) ∙ ap (λ (p : Past). p.origin) ready in
    let room : length h < c.self.inside.capacity = omega (arith, ap (λ (s : Ledger g.row.P.Denot). length s.history) c.self.view_is, ap (λ (s : Ledger g.row.P.Denot). s.capacity) c.self.view_is, c.requires.room) in
    let place : length h ≡ at = sym (ap length c.history.ensures.value) in
    let mine : e.caller ≡ caller = c.in-Ok.ensures.caller in
    let all : list_of c.pass.inside.held.items ≡ entries_of h caller = ap (λ v. v.list) c.pass.view_is ∙ c.requires.whole ∙ sym (ap (λ (s : Ledger g.row.P.Denot). entries_of s.history c.args.pass.now.caller) c.self.view_is) ∙ sym (ap (λ (v : Received). entries_of h v.caller) c.pass.view_is) in
    let items : c.note_down.new.held.items ≡ c.pass.inside.held.items ++ x ∷ [] = c.note_down.ensures.held.1 ∙ ap (λ l. l ++ x ∷ []) c.make_ready-made.ensures.held in
    let counted : c.len.result ≡ length c.pass.inside.held.items + 1 = omega (arith, ap length items, length_push c.pass.inside.held.items x, c.len.ensures) in
    let pushed = entries_push_same h e caller mine in
    let count : c.len.result ≡ length (entries_of (h ++ e ∷ []) caller) = omega (arith, counted, ap length pushed, length_push (entries_of h caller) (length h, e), ap length all, length-map c.pass.inside.held.items pair_of) in
    let last : at ≡ last_position (entries_of (h ++ e ∷ []) caller) = sym (ap last_position pushed ∙ last_push 0 (entries_of h caller) (length h, e) ∙ place) in
    let next : now ≡ grown was e = λ i. record { origin = begins i; history = grows i } in
    let stands = c.publish-told.new.self in
    let book : stands.book ≡ g.N.DeskName.book = c.publish-told.ensures.book ∙ c.make_ready-made.ensures.book ∙ c.self.invariant.book_is in
    let longer : c.make_ready-made.new.publisher.added ≡ grown was e = c.in-Ok.ensures.added ∙ ap (λ (p : Past). grown p e) c.self.invariant.added_is in
    let here : past_of c.book.result.now ≡ now = ap past_of c.book.ensures in
    let added : stands.added ≡ now = either_same stands.added c.make_ready-made.new.publisher.added (past_of c.book.result.now) (longer ∙ sym next ∙ sym here) c.publish-told.ensures.added ∙ here in
    let before : Extends c.make_ready-made.new.publisher.shown was = subst (λ (p : Past). Extends p was) (sym c.make_ready-made.ensures.shown) c.self.invariant.shown_begins in
    let shown : Extends stands.shown now = subst (λ (p : Past). Extends stands.shown p) here (shown_next c.publish-told.result c.make_ready-made.new.publisher.shown stands.shown was (past_of c.book.result.now) e before (here ∙ next) c.publish-told.ensures.shown c.publish-told.ensures.refused) in
    let filled : c.self.inside.cells ≡ record { names = g.N.DeskName.cells; count = length h } = c.self.invariant.cells_are in
    let cell : slice_get g.N.DeskName.cells (length h) ≡ Some n.cell = ap (λ (f : Filled). slice_get f.names f.count) (sym filled) ∙ c.in-Ok.ensures.cell in
    let notes : c.note_down.new.notes.items ≡ c.self.inside.notes.items ++ n ∷ [] = c.note_down.ensures.notes ∙ ap (λ l. l ++ n ∷ []) c.make_ready-made.ensures.notes in
    subst (λ l. JournalKeeps g.N.DeskName.origin g.N.DeskName.cells g.N.DeskName.book g.N.DeskName.callers now c.self.inside.capacity (slice_set c.self.inside.rows.items caller r) l c.make_ready-made.new.cells stands) (sym notes)
    (journal_push c.self.invariant now e n r caller c.make_ready-made.new.cells stands (begins ∙ c.self.invariant.origin_is) grows room mine c.pass.invariant.caller_within cell c.in-Ok.ensures.known (count, last) c.make_ready-made.ensures.names c.in-Ok.ensures.count book added shown)

pub returns-clause-back : goal.returns-clause-back
returns-clause-back g c =
    let old = c.make_ready-made.new.warehouse in
    let entry = c.commit-entry.result.entry in
    let fits = g.P.Plans.fits_map in
    let origin = g.N.DeskName.origin in
    let site : old.book.site ≡ origin.site = ap (λ (p : Past). p.origin.site) (past_same _ _ c.make_ready-made.ensures.same) ∙ ap (λ (o : Origin). o.site) c.self.invariant.origin_is in
    let fit : AllFit fits origin.site.grid old.planners = subst (λ (s : Site). AllFit fits s.grid old.planners) site c.planners-seated.ensures.tied.fit in
    let back = handed_back fits origin.site.grid (replaced_agent entry) old.planners c.in-Ok.made.ready.spare c.commit-entry.new.self.planners c.commit-entry.result.back (λ agent is. omega (arith, c.commit-entry.ensures.seats, seated old.book.site old.book.state entry.reply entry.event c.commit-entry.new.self.book.state agent c.commit-entry.ensures.step is)) fit c.commit-entry.ensures.swaps in
    subst (λ handed. HandsBack fits origin.site.grid (replaced_agent entry) handed c.commit-entry.result.back) c.in-Ok.ensures.spare back

pub returns-clause-reseats : goal.returns-clause-reseats
returns-clause-reseats g c =
    let entry = c.commit-entry.result.entry in
    let made = c.in-Ok.made.ready in
    let back = c.commit-entry.result.back in
    let now = c.commit-entry.new.self.planners in
    let asked : IsAskedBy c.args.command entry.event = (c.in-Ok.ensures.event.0, ap (λ (e : Entry). e.event) c.commit-entry.ensures.entry ∙ c.in-Ok.ensures.event.1) in
    let done = reseats entry c.args.command c.self.inside.warehouse.planners c.make_ready-made.new.warehouse.planners made.spare now back asked c.make_ready-made.ensures.still c.commit-entry.ensures.swaps in
    subst (λ handed. Reseats c.args.command (replaced_agent entry) c.args.self.now.planners handed now back) c.in-Ok.ensures.spare
    (subst (λ (old : List g.row.P.Denot). Reseats c.args.command (replaced_agent entry) old made.spare now back) (ap (λ (s : Ledger g.row.P.Denot). s.planners) c.self.view_is) done)
