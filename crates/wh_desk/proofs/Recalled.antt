-- one entry more that is taken up when a desk opens
use Rattle.std.proofs.Common.{◌≡◌, ℕ, ◌+◌, ◌<◌, List, [], ◌∷◌, ◌++◌, length, set, Some, slice_get, refl, ap, sym, ◌∙◌, subst, arith}
use Rattle.std.proofs.lemmas.List.{map_push, length_push, length-set}
use Rattle.std.proofs.lemmas.List.Elements.{All-push, All-nil}
use Rattle.once_cell.specs.declared.race.note.Note.{Note}
use Rattle.wh_event.specs.declared.entry.Entry.{Entry}
use Rattle.wh_desk.specs.declared.pass.Held.{Held}
use Rattle.wh_desk.specs.declared.earlier.Own.{Own}
use Rattle.wh_desk.specs.declared.earlier.Earlier.{Earlier}
use Rattle.wh_desk.specs.Lists.{AllAt, entries_of, last_position}
use Rattle.wh_desk.specs.Kept.{pair_of, list_of, NoteAt, NoteKnows, Filled}
use Rattle.wh_desk.specs.Earlier.{OwnOf, Recalls}
use Rattle.wh_desk.proofs.Entries.{last_push, AllAt_push, AllAt_map, get_push, entries_push_same, entries_push_other}
use Rattle.wh_desk.proofs.Receipts.{AllAt_set, get_under}

-- nobody has anything of no entries
pub recalls_none : (names : List ℕ) (callers : ℕ) (made : Earlier) → made.cells ≡ record { names = names; count = 0 } → made.notes.items ≡ [] → length made.owns.items ≡ callers
    → AllAt (λ _ own. (own.held.items ≡ []) × (own.last ≡ 0)) made.owns.items → Recalls names callers [] made
recalls_none names callers made cells notes count empty = record {
  cells_are = cells;
  notes_length = ap length notes;
  notes_are = subst (λ (l : List (Note Entry)). AllAt (NoteAt names []) l) (sym notes) (λ k x h. absurd cc);
  callers_within = All-nil _;
  owns_length = count;
  owns_are = λ k own at. record {
    receipts = ap list_of (empty k own at).0;
    last_is = (empty k own at).1;
    notes = subst (λ (l : List Held). AllAt (λ _ x. NoteKnows names x) l) (sym (empty k own at).0) (λ j x h. absurd cc);
  };
}

-- a caller with one entry more
own_push : (names : List ℕ) (before : List Entry) (e : Entry) (caller : ℕ) (own new : Own) (x : Held) → OwnOf names (entries_of before caller) own → e.caller ≡ caller
    → new.held.items ≡ own.held.items ++ x ∷ [] → new.last ≡ length before → x.position.value ≡ length before → x.entry.value ≡ e → NoteKnows names x
    → OwnOf names (entries_of (before ++ e ∷ []) caller) new
own_push names before e caller own new x has mine items last at is knows =
    let pair : pair_of x ≡ (length before, e) = λ i. (at i, is i) in
    let grows = entries_push_same before e caller mine in
    record {
      receipts = ap list_of items ∙ map_push pair_of own.held.items x ∙ ap (λ p. list_of own.held.items ++ p ∷ []) pair ∙ ap (λ l. l ++ (length before, e) ∷ []) has.receipts ∙ sym grows;
      last_is = last ∙ sym (ap last_position grows ∙ last_push 0 (entries_of before caller) (length before, e));
      notes = subst (λ (l : List Held). AllAt (λ _ y. NoteKnows names y) l) (sym items) (AllAt_push (λ _ y. NoteKnows names y) own.held.items x has.notes knows);
    }

-- one entry more: its cell is set, its note is there, and its caller has it
pub recalls_push : (names : List ℕ) (callers : ℕ) (before : List Entry) (made new : Earlier) (e : Entry) (n : Note Entry) (own after : Own) (x : Held)
    → Recalls names callers before made → slice_get made.owns.items e.caller ≡ Some own → e.caller < callers
    → new.cells.names ≡ made.cells.names → new.cells.count ≡ made.cells.count + 1
    → slice_get made.cells.names made.cells.count ≡ Some n.cell → n.known ≡ Some e
    → new.notes.items ≡ made.notes.items ++ n ∷ [] → new.owns.items ≡ set made.owns.items e.caller after
    → after.held.items ≡ own.held.items ++ x ∷ [] → after.last ≡ length made.notes.items
    → x.position.value ≡ length made.notes.items → x.entry.value ≡ e → x.note ≡ n
    → Recalls names callers (before ++ e ∷ []) new
recalls_push names callers before made new e n own after x has at within named counted cell known notes owns held last place is noted =
    let whole : List Entry = before ++ e ∷ [] in
    let longer = length_push before e in
    let count : made.cells.count ≡ length before = ap (λ (f : Filled). f.count) has.cells_are in
    let called : made.cells.names ≡ names = ap (λ (f : Filled). f.names) has.cells_are in
    let here : slice_get names (length before) ≡ Some n.cell = ap (λ l. slice_get l (length before)) (sym called) ∙ ap (slice_get made.cells.names) (sym count) ∙ cell in
    let knows : NoteKnows names x = record {
      cell = ap (slice_get names) (place ∙ has.notes_length) ∙ here ∙ ap (λ (m : Note Entry). Some m.cell) (sym noted);
      known = ap (λ (m : Note Entry). m.known) noted ∙ known ∙ ap Some (sym is);
    } in
    let P : ℕ → Note Entry → Type 0 = λ k m. NoteAt names whole k m in
    let old : AllAt P made.notes.items = AllAt_map (λ k m. NoteAt names before k m) P made.notes.items (λ k m less it. record { cell = it.cell; known = it.known ∙ get_under before (e ∷ []) k (omega (arith, has.notes_length)) }) has.notes_are in
    let mine : P (length made.notes.items) n = record { cell = ap (slice_get names) has.notes_length ∙ here; known = known ∙ sym (get_push before e) ∙ ap (slice_get whole) (sym has.notes_length) } in
    record {
      cells_are = (let many : new.cells.count ≡ length whole = omega (arith, counted, count, longer) in let all : new.cells.names ≡ names = named ∙ called in λ i. record { names = all i; count = many i });
      notes_length = ap length notes ∙ length_push made.notes.items n ∙ ap (λ k. k + 1) has.notes_length ∙ sym longer;
      notes_are = subst (λ (l : List (Note Entry)). AllAt P l) (sym notes) (AllAt_push P made.notes.items n old mine);
      callers_within = All-push (λ (y : Entry). y.caller < callers) before e has.callers_within within;
      owns_length = ap length owns ∙ length-set made.owns.items e.caller after ∙ has.owns_length;
      owns_are = subst (λ (l : List Own). AllAt (λ c o. OwnOf names (entries_of whole c) o) l) (sym owns)
          (AllAt_set (λ c o. OwnOf names (entries_of before c) o) (λ c o. OwnOf names (entries_of whole c) o) made.owns.items e.caller after
          (λ c o apart it. subst (λ l. OwnOf names l o) (sym (entries_push_other before e c (λ same. apart (sym same)))) it)
          (own_push names before e e.caller own after x (has.owns_are e.caller own at) refl held (last ∙ has.notes_length) (place ∙ has.notes_length) is knows)
          has.owns_are);
    }
