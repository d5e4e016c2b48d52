-- one more entry, in a pass and in the journal.
use Rattle.std.proofs.Common.{Option, None, IfSome, IfNone, ◌≡◌, ◌≢◌, ℕ, zero, suc, ◌+◌, ◌<◌, List, [], ◌∷◌, ◌++◌, length, set, Some, slice_get, refl, ap, sym, ◌∙◌, subst, arith, ◌⊎◌, inl, inr}
use Rattle.std.specs.List.{All}
use Rattle.std.proofs.lemmas.List.{map_push, length_push, length-set}
use Rattle.std.proofs.lemmas.List.Elements.{All-push}
use Rattle.once_cell.specs.declared.race.note.Note.{Note}
use Rattle.wh_event.specs.declared.entry.Entry.{Entry}
use Rattle.logbook.specs.Pages.{Book}
use Rattle.wh_book.specs.Drafts.{Seen, IsSame}
use Rattle.wh_board.specs.Pasts.{Origin, Past, Known, Stand, Extends, grown, past_of}
use Rattle.wh_board.proofs.Chains.{extends_same, extends_trans, extends_grown}
use Rattle.wh_desk.specs.Lists.{AllAt, IsRunFrom, entries_of, last_position}
use Rattle.wh_desk.proofs.Entries.{last_push, AllAt_push, AllAt_map, get_push, entries_push_same, entries_push_other}
use Rattle.wh_desk.specs.declared.pass.Held.{Held}
use Rattle.wh_desk.specs.declared.pass.Row.{Row}
use Rattle.wh_desk.specs.Kept.{pair_of, list_of, RowOf, NoteKnows, PassKeeps, NoteAt, Filled, JournalKeeps}

-- a list with one element changed
pub AllAt_set : {A : Type 0} (P Q : ℕ → A → Type 0) (xs : List A) (i : ℕ) (y : A) → ((k : ℕ) (x : A) → k ≢ i → P k x → Q k x) → Q i y → AllAt P xs → AllAt Q (set xs i y)
AllAt_set P Q [] i y other new all k x h = absurd (cc)
AllAt_set P Q (z ∷ xs) zero y other new all zero x h = (let same : y ≡ x = cc in subst (λ w. Q zero w) same new)
AllAt_set P Q (z ∷ xs) zero y other new all (suc k) x h = other (suc k) x (λ e. omega arith) (all (suc k) x h)
AllAt_set P Q (z ∷ xs) (suc i) y other new all zero x h = other zero x (λ e. omega arith) (all zero x h)
AllAt_set P Q (z ∷ xs) (suc i) y other new all (suc k) x h = AllAt_set (λ j. P (suc j)) (λ j. Q (suc j)) xs i y (λ j w apart p. other (suc j) w (λ e. apart (omega arith)) p) new (λ j w e. all (suc j) w e) k x h

-- below the length, a longer list has the same elements
pub get_under : {A : Type 0} (xs ys : List A) (k : ℕ) → k < length xs → slice_get xs k ≡ slice_get (xs ++ ys) k
get_under [] ys k less = absurd (omega arith)
get_under (x ∷ xs) ys zero less = refl
get_under (x ∷ xs) ys (suc k) less = get_under xs ys k (omega arith)

-- a pass that comes to know of a longer history, in which it has all that its caller did
pub pass_learns : {origin : Origin} {row : List ℕ} {book : Book} {callers caller last long : ℕ} {held : List Held} {front : Known} → PassKeeps origin row book callers caller last long held front
    → (after : Known) (longer : ℕ) → list_of held ≡ entries_of after.past.history caller → after.book ≡ book → IsRunFrom origin after.past.history → longer ≡ length after.past.history
    → PassKeeps origin row book callers caller last longer held after
pass_learns {origin} {row} {book} {callers} {caller} {last} {long} {held} {front} keeps after longer all same run count = record {
  caller_within = keeps.caller_within;
  last_is = keeps.last_is;
  book_is = same;
  run = run;
  long_is = count;
  all = all;
  notes = keeps.notes;
}

-- one more receipt, whose note knows its entry
pub pass_push : {origin : Origin} {row : List ℕ} {book : Book} {callers caller last long : ℕ} {held : List Held} {front : Known} → PassKeeps origin row book callers caller last long held front → (h : List Entry) (x : Held) (at : ℕ) (e : Entry) (after : Known) → x.position.value ≡ at → x.entry.value ≡ e → list_of held ≡ entries_of h caller → NoteKnows row x → length h ≡ at → e.caller ≡ caller → after.book ≡ book → after.past.history ≡ h ++ e ∷ [] → IsRunFrom origin after.past.history → PassKeeps origin row book callers caller at (at + 1) (held ++ x ∷ []) after
pass_push {origin} {row} {book} {callers} {caller} {last} {long} {held} {front} keeps h x at e after at_is e_is all knows place mine same grows run =
    let pair : pair_of x ≡ (at, e) = λ i. (at_is i, e_is i) in
    let more : list_of (held ++ x ∷ []) ≡ list_of held ++ (at, e) ∷ [] = map_push pair_of held x ∙ ap (λ p. list_of held ++ p ∷ []) pair in
    record {
      caller_within = keeps.caller_within;
      last_is = sym (ap last_position more ∙ last_push 0 (list_of held) (at, e));
      book_is = same;
      run = run;
      long_is = omega (arith, place, ap length grows, length_push h e);
      all = more ∙ ap (λ n. list_of held ++ (n, e) ∷ []) (sym place) ∙ ap (λ l. l ++ (length h, e) ∷ []) all ∙ sym (entries_push_same h e caller mine) ∙ ap (λ l. entries_of l caller) (sym grows);
      notes = AllAt_push (λ _ y. NoteKnows row y) held x keeps.notes knows;
    }

-- what was published last is a beginning of the history, whether or not the board was published with this entry
pub shown_next : (told : Option Known) (shown after old now : Past) (e : Entry)
    → Extends shown old → now ≡ grown old e
    → IfSome told (λ _. after ≡ now) → IfNone told (after ≡ shown)
    → Extends after now
shown_next (Some t) shown after old now e begins is there none = extends_same after now there
shown_next None shown after old now e begins is there none =
    subst (λ (p : Past). Extends p now) (sym none) (subst (λ (p : Past). Extends shown p) (sym is) (extends_trans shown old (grown old e) begins (extends_grown old old e refl)))

-- one more entry in the journal, with its note and its caller's row
pub journal_push : {origin : Origin} {names : List ℕ} {book : Book} {callers capacity : ℕ} {past : Past} {rows : List Row} {notes : List (Note Entry)} {cells : Filled} {publisher : Stand}
    → JournalKeeps origin names book callers past capacity rows notes cells publisher
    → (after : Past) (e : Entry) (n : Note Entry) (r : Row) (caller : ℕ) (more : Filled) (stands : Stand)
    → after.origin ≡ origin → after.history ≡ past.history ++ e ∷ [] → length past.history < capacity
    → e.caller ≡ caller → caller < callers
    → slice_get names (length past.history) ≡ Some n.cell → n.known ≡ Some e
    → RowOf (entries_of (past.history ++ e ∷ []) caller) r
    → more.names ≡ cells.names → more.count ≡ cells.count + 1
    → stands.book ≡ book → stands.added ≡ after → Extends stands.shown after
    → JournalKeeps origin names book callers after capacity (set rows caller r) (notes ++ n ∷ []) more stands
journal_push {origin} {names} {book} {callers} {capacity} {past} {rows} {notes} {cells} {publisher} keeps after e n r caller more stands begins grows room mine within cell known row still filled same added shown =
    let h = past.history in
    let longer = length_push h e in
    let longer_list : List Entry = h ++ e ∷ [] in
    let P : ℕ → Note Entry → Type 0 = λ k m. NoteAt names longer_list k m in
    let old : AllAt P notes = AllAt_map (λ k m. NoteAt names h k m) P notes (λ k m less at. record { cell = at.cell; known = at.known ∙ get_under h (e ∷ []) k (omega (arith, keeps.notes_length)) }) keeps.notes_are in
    let new : P (length notes) n = record { cell = ap (slice_get names) keeps.notes_length ∙ cell; known = known ∙ sym (get_push h e) ∙ ap (slice_get longer_list) (sym keeps.notes_length) } in
    let rows' : AllAt (λ c q. RowOf (entries_of longer_list c) q) (set rows caller r) = AllAt_set (λ c q. RowOf (entries_of h c) q) (λ c q. RowOf (entries_of longer_list c) q) rows caller r (λ c q apart is. subst (λ l. RowOf l q) (sym (entries_push_other h e c (λ same. apart (sym same ∙ mine)))) is) row keeps.rows_are in
    record {
      origin_is = begins;
      within = omega (arith, longer, ap length grows);
      capacity_is = keeps.capacity_is;
      cells_are =
          let count : more.count ≡ length after.history = omega (arith, filled, ap (λ (f : Filled). f.count) keeps.cells_are, longer, ap length grows) in
          let named : more.names ≡ names = still ∙ ap (λ (f : Filled). f.names) keeps.cells_are in
          λ i. record { names = named i; count = count i };
      callers_within = subst (λ l. All (λ (x : Entry). x.caller < callers) l) (sym grows) (All-push (λ (x : Entry). x.caller < callers) h e keeps.callers_within (omega (arith, mine)));
      rows_length = length-set rows caller r ∙ keeps.rows_length;
      rows_are = subst (λ l. AllAt (λ c q. RowOf (entries_of l c) q) (set rows caller r)) (sym grows) rows';
      notes_length = length_push notes n ∙ ap (λ k. k + 1) keeps.notes_length ∙ sym longer ∙ ap length (sym grows);
      notes_are = subst (λ l. AllAt (NoteAt names l) (notes ++ n ∷ [])) (sym grows) (AllAt_push P notes n old new);
      book_is = same;
      added_is = added;
      shown_begins = shown;
    }

-- a book that is the same but for its room has the same past
pub past_same : (old new : Seen) → IsSame old new → past_of new ≡ past_of old
past_same old new same = λ i. record { origin = record { site = same.site i; opening = same.opening i }; history = same.history i }

-- a journal of which a call was refused: its past, notes, cells and publisher are the same
pub journal_same : {origin : Origin} {names : List ℕ} {book : Book} {callers capacity : ℕ} {past : Past} {rows : List Row} {notes : List (Note Entry)} {cells : Filled} {publisher : Stand}
    → JournalKeeps origin names book callers past capacity rows notes cells publisher
    → (after : Past) (notes' : List (Note Entry)) (filled : Filled) (stands : Stand) → after ≡ past → notes' ≡ notes
    → filled.names ≡ cells.names → filled.count ≡ cells.count
    → stands.book ≡ publisher.book → stands.added ≡ publisher.added → stands.shown ≡ publisher.shown
    → JournalKeeps origin names book callers after capacity rows notes' filled stands
journal_same {origin} {names} {book} {callers} {capacity} {past} {rows} {notes} {cells} {publisher} keeps after notes' filled stands is same named count one two three =
    let fill : cells ≡ filled = λ i. record { names = sym named i; count = sym count i } in
    let stand : publisher ≡ stands = λ i. record { book = sym one i; added = sym two i; shown = sym three i } in
    subst (λ (t : Past). JournalKeeps origin names book callers t capacity rows notes' filled stands) (sym is)
    (subst (λ (l : List (Note Entry)). JournalKeeps origin names book callers past capacity rows l filled stands) (sym same)
    (subst (λ (f : Filled). JournalKeeps origin names book callers past capacity rows notes f stands) fill
    (subst (λ (p : Stand). JournalKeeps origin names book callers past capacity rows notes cells p) stand keeps)))

-- whichever of two equal ones it is
pub either_same : {A : Type 0} (x y z : A) → y ≡ z → (x ≡ z) ⊎ (x ≡ y) → x ≡ z
either_same x y z same (inl is) = is
either_same x y z same (inr is) = is ∙ same
