use Rattle.std.proofs.Common.{◌≡◌, ◌<◌, ℕ, List, length, ap, sym, ◌∙◌, subst, arith}
use Rattle.std.specs.List.{All}
use Rattle.wh_event.specs.declared.entry.Entry.{Entry}
use Rattle.wh_board.specs.Pasts.{Past}
use Rattle.wh_desk.specs.declared.earlier.Own.{Own}
use Rattle.wh_desk.specs.Lists.{AllAt, Received, entries_of}
use Rattle.wh_desk.specs.Kept.{NoteAt}
use Rattle.wh_desk.specs.Earlier.{OwnOf}
use Rattle.wh_desk.proofs.desk.Desk.resume.Goals as goal

pub passes_of-requires-clause-owns : goal.passes_of-requires-clause-owns
passes_of-requires-clause-owns g c = λ k x at.
    let front : c.front.result.now.past.history ≡ c.args.warehouse.book.history = ap (λ (p : Past). p.history) (c.front.ensures.past ∙ c.requires.added) in
    let own : OwnOf c.args.cells (entries_of c.args.warehouse.book.history k) x = subst (λ (l : List Entry). OwnOf c.args.cells (entries_of l k) x) c.history-history.ensures.value (c.in-Ok.ensures.ok.owns_are k x at) in
    subst (λ (names : List ℕ). OwnOf names (entries_of c.front.result.now.past.history k) x) c.requires.named
    (subst (λ (l : List Entry). OwnOf c.args.cells (entries_of l k) x) (sym front) own)

pub over-journal-requires-clause-room : goal.over-journal-requires-clause-room
over-journal-requires-clause-room g c =
    omega (arith, c.in-Ok.ensures.room, ap (λ (l : List Entry). length l) c.history-history.ensures.value, c.len-capacity.ensures)

pub over-journal-requires-clause-callers : goal.over-journal-requires-clause-callers
over-journal-requires-clause-callers g c =
    subst (λ (n : ℕ). All (λ (e : Entry). e.caller < n) c.args.warehouse.book.history) c.requires.callers
    (subst (λ (l : List Entry). All (λ (e : Entry). e.caller < c.args.callers) l) c.history-history.ensures.value c.in-Ok.ensures.ok.callers_within)

pub over-journal-requires-clause-rows : goal.over-journal-requires-clause-rows
over-journal-requires-clause-rows g c =
    let h = c.args.warehouse.book.history in
    let owns : AllAt (λ caller own. OwnOf c.args.cells (entries_of h caller) own) c.in-Ok.earlier.owns.items =
    subst (λ (l : List Entry). AllAt (λ caller own. OwnOf c.args.cells (entries_of l caller) own) c.in-Ok.earlier.owns.items) c.history-history.ensures.value c.in-Ok.ensures.ok.owns_are in
    c.in-Ok-rows_of.ensures.rows c.args.cells h (subst (λ (l : List Own). AllAt (λ caller own. OwnOf c.args.cells (entries_of h caller) own) l) (sym c.as_slice.ensures.value) owns)

pub over-journal-requires-clause-notes : goal.over-journal-requires-clause-notes
over-journal-requires-clause-notes g c =
    subst (λ (names : List ℕ). AllAt (NoteAt names c.args.warehouse.book.history) c.in-Ok.earlier.notes.items) c.requires.named
    (subst (λ (l : List Entry). AllAt (NoteAt c.args.cells l) c.in-Ok.earlier.notes.items) c.history-history.ensures.value c.in-Ok.ensures.ok.notes_are)

pub returns-clause-lists : goal.returns-clause-lists
returns-clause-lists g c =
    subst (λ (l : List Entry). All (λ (p : Received). p.list ≡ entries_of l p.caller) c.in-Ok-passes_of.passes.items)
    (ap (λ (p : Past). p.history) (c.front.ensures.past ∙ c.requires.added)) c.in-Ok-passes_of.ensures.lists

pub returns-clause-known : goal.returns-clause-known
returns-clause-known g c =
    subst (λ (l : List Entry). All (λ (p : Received). p.known ≡ l) c.in-Ok-passes_of.passes.items)
    (ap (λ (p : Past). p.history) (c.front.ensures.past ∙ c.requires.added)) c.in-Ok-passes_of.ensures.known
