-- Bytes that wait before they are added to a keeper's log.
use Rattle.std.proofs.Common.{◌≡◌, ◌<◌, ◌+◌, ℕ, List, [], ◌∷◌, ◌++◌, length, take, drop, map, refl, sym, ap, ◌∙◌, append_assoc, append-nil, subst, get_or, take-append-drop}
use Rattle.std.proofs.lemmas.List.{map-append, take_more}
use Rattle.std.proofs.lemmas.Grind.{flat_map-append}
use Rattle.wh_words.specs.Lines.{text_of as lines_text}
use Rattle.wh_grid.specs.declared.cell.Cell.{Cell}
use Rattle.wh_path.specs.Paths.{at}
use Rattle.wh_event.specs.declared.entry.Entry.{Entry}
use Rattle.wh_log.specs.Spaced.{spaced}
use Rattle.wh_log.specs.Spelling.{cell_word, entry_line}
use Rattle.wh_log.proofs.Fronts.{text-append}
use Rattle.wh_log.proofs.PathLoop.{cell_pushed}
use Rattle.wh_session.specs.Machines.{Records, nothing, joined}
use Rattle.wh_session.specs.Joined.{same_records, joined_nil}
use Rattle.wh_replay.specs.Appending.{lines_for, logged, Moves, FailsAt}

-- ---- bytes of a log

pub lines_append : (xs ys : List Entry) → lines_for (xs ++ ys) ≡ lines_for xs ++ lines_for ys
lines_append xs ys = ap lines_text (map-append entry_line xs ys) ∙ text-append (map entry_line xs) (map entry_line ys)

pub logged_lines : (xs ys : List Entry) → logged (lines_for (xs ++ ys)) ≡ joined (logged (lines_for xs)) (logged (lines_for ys))
logged_lines xs ys = ap logged (lines_append xs ys)

-- entries that a history grows by, and then others
pub entries_more : (a b c : List Entry) (xs ys : List Entry) → b ≡ a ++ xs → c ≡ b ++ ys → c ≡ a ++ (xs ++ ys)
entries_more a b c xs ys p q = q ∙ ap (λ l. l ++ ys) p ∙ append_assoc a xs ys

abbrev cells : List Cell → List ℕ
cells path = spaced (map cell_word path)

cells_split : (k : ℕ) (path : List Cell) → cells path ≡ cells (take k path) ++ cells (drop k path)
cells_split k path =
    ap cells (sym (take-append-drop k path)) ∙ ap spaced (map-append cell_word (take k path) (drop k path)) ∙ flat_map-append (λ word. 32 ∷ word) (map cell_word (take k path)) (map cell_word (drop k path))

-- bytes are added in two pieces
pieces : (a b c d : List ℕ) (r rest : Records) → a ++ b ≡ c ++ d → joined (joined (joined r (logged a)) (logged b)) rest ≡ joined (joined (joined r (logged c)) (logged d)) rest
pieces a b c d r rest e =
    same_records (joined (joined (joined r (logged a)) (logged b)) rest) (joined (joined (joined r (logged c)) (logged d)) rest)
    (ap (λ (l : List ℕ). l ++ rest.log) (append_assoc r.log a b ∙ ap (λ (l : List ℕ). r.log ++ l) e ∙ sym (append_assoc r.log c d))) refl

module _ {H : Type 0} (is_safe : H → Type 0) (adds leaves : H → Records → H → Type 0) (adds_none : (a : H) → adds a nothing a) (adds_both : (a b c : H) (r s : Records) → adds a r b → adds b s c → adds a (joined r s) c) where
  pub moves_nil : (a : H) (r : List ℕ) → Moves adds a a r r []
  moves_nil a r = record { moved = []; added = adds_none a; parts = append-nil r }

  -- all that waited was moved
  pub moves_all : (a b : H) (r s : List ℕ) → adds a (logged r) b → s ≡ [] → Moves adds a b r s []
  moves_all a b r s p e = record { moved = r; added = p; parts = ap (λ (l : List ℕ). r ++ l) (sym e) }

  -- more waits
  pub moves_wait : (a b : H) (r s t bytes : List ℕ) → Moves adds a b r s [] → t ≡ s ++ bytes → Moves adds a b r t bytes
  moves_wait a b r s t bytes m e = record {
    moved = m.moved;
    added = m.added;
    parts = ap (λ (l : List ℕ). l ++ bytes) (sym (append-nil r) ∙ m.parts) ∙ append_assoc m.moved s bytes ∙ ap (λ (l : List ℕ). m.moved ++ l) (sym e);
  }

  both : (r s x y m : List ℕ) → r ++ x ≡ m ++ s → r ++ (x ++ y) ≡ m ++ (s ++ y)
  both r s x y m e = sym (append_assoc r x y) ∙ ap (λ (l : List ℕ). l ++ y) e ∙ append_assoc m s y

  pub moves_trans : (a b c : H) (r s t x y z : List ℕ) → z ≡ x ++ y → Moves adds a b r s x → Moves adds b c s t y → Moves adds a c r t z
  moves_trans a b c r s t x y z e p q = record {
    moved = p.moved ++ q.moved;
    added = adds_both a b c (logged p.moved) (logged q.moved) p.added q.added;
    parts = ap (λ (l : List ℕ). r ++ l) e ∙ both r s x y p.moved p.parts ∙ ap (λ (l : List ℕ). p.moved ++ l) q.parts ∙ sym (append_assoc p.moved q.moved t);
  }

  -- what was added ahead of a call that failed
  fails_after : (a b c : H) (m s z : List ℕ) → z ≡ m ++ s → adds a (logged m) b → FailsAt is_safe adds leaves b c s → FailsAt is_safe adds leaves a c z
  fails_after a b c m s z e p w = record {
    left = λ start r rest safe before order.
        subst (λ (x : Records). leaves start x c)
        (pieces m s [] z r rest (sym e) ∙ ap (λ (x : Records). joined (joined x (logged z)) rest) (joined_nil r))
        (w.left start (joined r (logged m)) rest safe (adds_both start a b r (logged m) before p) (append-nil r.more ∙ order));
  }

  -- more was to be added
  pub fails_first : (a c : H) (r x y z : List ℕ) → z ≡ x ++ y → FailsAt is_safe adds leaves a c (r ++ x) → FailsAt is_safe adds leaves a c (r ++ z)
  fails_first a c r x y z e w = record {
    left = λ start before rest safe p order.
        let long : ((before.log ++ (r ++ x)) ++ (y ++ rest.log)) ≡ ((before.log ++ (r ++ z)) ++ rest.log) =
        sym (append_assoc (before.log ++ (r ++ x)) y rest.log)
        ∙ ap (λ (l : List ℕ). l ++ rest.log) (append_assoc before.log (r ++ x) y ∙ ap (λ (l : List ℕ). before.log ++ l) (append_assoc r x y ∙ ap (λ (l : List ℕ). r ++ l) (sym e))) in
        subst (λ (k : Records). leaves start k c)
        (same_records (joined (joined before (logged (r ++ x))) (joined (logged y) rest)) (joined (joined before (logged (r ++ z))) rest) long refl)
        (w.left start before (joined (logged y) rest) safe p order);
  }

  -- at what comes next
  pub fails_next : (a b c : H) (r s x y z : List ℕ) → z ≡ x ++ y → Moves adds a b r s x → FailsAt is_safe adds leaves b c (s ++ y) → FailsAt is_safe adds leaves a c (r ++ z)
  fails_next a b c r s x y z e p w = fails_after a b c p.moved (s ++ y) (r ++ z) (ap (λ (l : List ℕ). r ++ l) e ∙ both r s x y p.moved p.parts) p.added w

  -- at what waits
  pub fails_waiting : (a b c : H) (s x : List ℕ) → Moves adds a b [] s x → FailsAt is_safe adds leaves b c s → FailsAt is_safe adds leaves a c x
  fails_waiting a b c s x p w = fails_after a b c p.moved s x p.parts p.added w

  -- what waits was added behind the bytes
  pub moves_end : (a b c : H) (s x : List ℕ) → Moves adds a b [] s x → adds b (logged s) c → adds a (logged x) c
  moves_end a b c s x p q = subst (λ (l : List ℕ). adds a (logged l) c) (sym p.parts) (adds_both a b c (logged p.moved) (logged s) p.added q)

  -- nothing else was to be added
  pub fails_alone : (a b : H) (bytes : List ℕ) → is_safe a → FailsAt is_safe adds leaves a b bytes → leaves a (logged bytes) b
  fails_alone a b bytes safe w = subst (λ (r : Records). leaves a r b) (joined_nil (logged bytes)) (w.left a nothing nothing safe (adds_none a) refl)

  -- ---- the cells of a path

  module _ (a b c : H) (r s : List ℕ) (path : List Cell) (k : ℕ) (cell : Cell) (below : k < length path) (is : cell ≡ at path k) (m : Moves adds a b r s (spaced (map cell_word (take k path)))) where
    one_cell : cells (take (k + 1) path) ≡ cells (take k path) ++ 32 ∷ cell_word cell
    one_cell = sym (cell_pushed [] (cells (take k path)) (cells (take k path) ++ 32 ∷ cell_word cell) path k cell below refl is refl)

    pub cell_waits : (t : List ℕ) → Moves adds b c s t (32 ∷ cell_word cell) → Moves adds a c r t (spaced (map cell_word (take (k + 1) path)))
    cell_waits t p = moves_trans a b c r s t (cells (take k path)) (32 ∷ cell_word cell) (cells (take (k + 1) path)) one_cell m p

    pub cell_fails : FailsAt is_safe adds leaves b c (s ++ 32 ∷ cell_word cell) → FailsAt is_safe adds leaves a c (r ++ spaced (map cell_word path))
    cell_fails w =
        fails_first a c r (cells (take (k + 1) path)) (cells (drop (k + 1) path)) (cells path) (cells_split (k + 1) path)
        (fails_next a b c r s (cells (take k path)) (32 ∷ cell_word cell) (cells (take (k + 1) path)) one_cell m w)

  -- ---- the lines of entries

  module _ (a b c : H) (r s : List ℕ) (entries : List Entry) (k : ℕ) (entry : Entry) (below : k < length entries) (is : entry ≡ get_or entries k entry) (m : Moves adds a b r s (lines_for (take k entries))) where
    abbrev line : List ℕ
    line = entry_line entry ++ 10 ∷ []

    one_line : lines_for (take (k + 1) entries) ≡ lines_for (take k entries) ++ line
    one_line =
        ap lines_for (take_more entries k entry below ∙ ap (λ (x : Entry). take k entries ++ x ∷ []) (sym is))
        ∙ lines_append (take k entries) (entry ∷ []) ∙ ap (λ (l : List ℕ). lines_for (take k entries) ++ l) (append-nil line)

    lines_split : lines_for entries ≡ lines_for (take (k + 1) entries) ++ lines_for (drop (k + 1) entries)
    lines_split = ap lines_for (sym (take-append-drop (k + 1) entries)) ∙ lines_append (take (k + 1) entries) (drop (k + 1) entries)

    pub entry_waits : (t : List ℕ) → Moves adds b c s t (entry_line entry ++ 10 ∷ []) → Moves adds a c r t (lines_for (take (k + 1) entries))
    entry_waits t p = moves_trans a b c r s t (lines_for (take k entries)) line (lines_for (take (k + 1) entries)) one_line m p

    pub entry_fails : FailsAt is_safe adds leaves b c (s ++ (entry_line entry ++ 10 ∷ [])) → FailsAt is_safe adds leaves a c (r ++ lines_for entries)
    entry_fails w =
        fails_first a c r (lines_for (take (k + 1) entries)) (lines_for (drop (k + 1) entries)) (lines_for entries) lines_split
        (fails_next a b c r s (lines_for (take k entries)) line (lines_for (take (k + 1) entries)) one_line m w)

  -- ---- the parts of a line

  module _ (line head tail : List ℕ) (is : line ≡ head ++ tail) (a b : H) (r : List ℕ) where
    parts : line ++ 10 ∷ [] ≡ head ++ (tail ++ 10 ∷ [])
    parts = ap (λ (l : List ℕ). l ++ 10 ∷ []) is ∙ append_assoc head tail (10 ∷ [])

    pub head_fails : FailsAt is_safe adds leaves a b (r ++ head) → FailsAt is_safe adds leaves a b (r ++ (line ++ 10 ∷ []))
    head_fails w = fails_first a b r head (tail ++ 10 ∷ []) (line ++ 10 ∷ []) parts w

    module _ (s : List ℕ) (m : Moves adds a b r s head) (c : H) where
      pub tail_fails : FailsAt is_safe adds leaves b c (s ++ tail) → FailsAt is_safe adds leaves a c (r ++ (line ++ 10 ∷ []))
      tail_fails w = fails_next a b c r s head (tail ++ 10 ∷ []) (line ++ 10 ∷ []) parts m (fails_first b c s tail (10 ∷ []) (tail ++ 10 ∷ []) refl w)

      module _ (t : List ℕ) (n : Moves adds b c s t tail) (d : H) where
        pub line_waits : (u : List ℕ) → Moves adds c d t u (10 ∷ []) → Moves adds a d r u (line ++ 10 ∷ [])
        line_waits u o = moves_trans a b d r s u head (tail ++ 10 ∷ []) (line ++ 10 ∷ []) parts m (moves_trans b c d s t u tail (10 ∷ []) (tail ++ 10 ∷ []) refl n o)

        pub feed_fails : FailsAt is_safe adds leaves c d (t ++ 10 ∷ []) → FailsAt is_safe adds leaves a d (r ++ (line ++ 10 ∷ []))
        feed_fails w = fails_next a b d r s head (tail ++ 10 ∷ []) (line ++ 10 ∷ []) parts m (fails_next b c d s t tail (10 ∷ []) (tail ++ 10 ∷ []) refl n w)
