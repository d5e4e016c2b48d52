use Rattle.std.proofs.Common.{◌≡◌, ◌<◌, [], ◌∷◌, ◌++◌, length, ap, sym, ◌∙◌, arith, refl, Some, slice_get}
use Rattle.std.proofs.lemmas.Option.{slice_get-get_or}
use Rattle.once_cell.specs.declared.race.note.Note.{Note}
use Rattle.wh_event.specs.declared.entry.Entry.{Entry}
use Rattle.wh_desk.specs.declared.pass.Held.{Held}
use Rattle.wh_desk.proofs.Recalled.{recalls_push}
use Rattle.wh_desk.proofs.earlier.take_up.Goals as goal

pub returns-in-Some-clause-ok : goal.returns-in-Some-clause-ok
returns-in-Some-clause-ok c = λ names callers before has.
    let made = c.args.made.now in
    let e : Entry = c.args.entry.now in
    let own = c.index_mut-own.result.now in
    let n : Note Entry = c.in-Some.note in
    let x : Held = c.note_down.ensures.held.0 in
    let within : e.caller < length made.owns.items = omega (arith, c.len.ensures) in
    let at : slice_get made.owns.items e.caller ≡ Some own = slice_get-get_or made.owns.items e.caller own within ∙ ap Some (sym c.index_mut-own.ensures.value) in
    let place : c.len-position.result ≡ length made.notes.items = omega (arith, c.len-position.ensures) in
    recalls_push names callers before made _ e n own _ x has at (omega (arith, within, has.owns_length)) c.fill.ensures.names c.in-Some.ensures.count
    c.in-Some.ensures.cell (c.in-Some.ensures.known ∙ ap Some c.in_ok-boxed.ensures)
    (c.note_down.ensures.notes ∙ ap (λ l. l ++ n ∷ []) c.make_room.ensures.notes) refl
    (c.note_down.ensures.held.1 ∙ ap (λ l. l ++ x ∷ []) c.make_room.ensures.held) place
    (c.note_down.ensures.held.2 ∙ place) c.note_down.ensures.held.3 c.note_down.ensures.held.4
