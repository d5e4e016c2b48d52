-- What is read as a map is one, and each map is read.
use Rattle.std.proofs.Common.{◌≡◌, ℕ, zero, suc, ◌+◌, ◌*◌, ◌<◌, ◌≤◌, Bool, true, false, cond, List, [], ◌∷◌, ◌++◌, length, map, take, Result, Ok, Err, refl, sym, ap, subst, ◌∙◌, ◌⊎◌, inl, inr, arith, eqb, length-append}
use Rattle.std.specs.Prelude.{codes}
use Rattle.std.specs.List.{list_all, flat_map, AllByRecursion}
use Rattle.std.proofs.lemmas.Bool.{eqb-true, eq-eqb}
use Rattle.std.proofs.lemmas.List.{take_all, length-map}
use Rattle.wh_text.specs.Lines.{Unread}
use Rattle.wh_text.specs.Words.{is_blank, words_of}
use Rattle.wh_grid.specs.declared.fault.MapKind.{MapKind}
use Rattle.wh_grid.specs.declared.fault.MapKind.TheVariants.{Head, RowLength, Letter, RowsMissing, TextAfter}
use Rattle.wh_grid.specs.declared.fault.Fault.{Fault}
use Rattle.wh_grid.specs.declared.head.Side.{Side}
use Rattle.wh_grid.specs.declared.head.Side.TheVariants.{Height, Width}
use Rattle.wh_grid.specs.declared.head.Size.{Size}
use Rattle.wh_grid.specs.Grids.{Floor}
use Rattle.wh_grid.specs.Faults.{◌>>=◌, located, next_of, line_by}
use Rattle.wh_grid.specs.MapLines.{is_letter, is_passable, type_line, map_line, first_side_line, side_line, side_named, other_side, name_of_side, row_line, blank_line}
use Rattle.wh_grid.specs.Maps.{rows_of, blanks_of, head_of, map_of, sides_by}
use Rattle.wh_grid.specs.Grammar.{IsSide, IsRow, IsBlank, IsMap}
use Rattle.wh_grid.proofs.Steps.{bind_ok, bind_err, guard_ok, located_ok, LineRead, line_ok}
use Rattle.wh_grid.proofs.HeadLemmas.{type_found, map_found, side_found, some_side_ok, side_again, named_again}

abbrev done : {A : Type 0} → A → Result A Fault
done x = Ok x

ok_is : {A : Type 0} (x y : A) → done x ≡ done y → x ≡ y
ok_is x y e = cc

-- one row
row_found : (width : ℕ) (line : List ℕ) (row : List Bool) → row_line width line ≡ Ok row → IsRow width line × (row ≡ map is_passable line)
row_found width line row e =
    let a = letters (list_all is_letter (take width line)) (eqb (length line) width) (map is_passable line) row e in
    let columns : length line ≡ width = eqb-true _ _ a.1 in
    let whole : take width line ≡ line = take_all width line (omega arith) in
    (record { columns = columns; letters = subst (λ (l : List ℕ). list_all is_letter l ≡ true) whole a.0 }, sym a.2)
  where
    letters : (b c : Bool) (x y : List Bool) → cond b (cond c (Ok x) (Err RowLength)) (Err Letter) ≡ Ok y → (b ≡ true) × (c ≡ true) × (x ≡ y)
    letters true true x y e = (refl, refl, cc)
    letters true false x y e = absurd cc
    letters false c x y e = absurd cc

row_again : (width : ℕ) (line : List ℕ) → IsRow width line → row_line width line ≡ Ok (map is_passable line)
row_again width line h =
    let columns : length line ≡ width = h.columns in
    let whole : take width line ≡ line = take_all width line (omega arith) in
    rw (whole, h.letters, eq-eqb _ _ columns) refl

pub record RowsRead (height width : ℕ) (before after : Unread) (cells : List Bool) : Type 0 where
  pub rows : List (List ℕ)
  pub parts : before.lines ≡ rows ++ after.lines
  pub count : after.count ≡ before.count + length rows
  pub height_is : length rows ≡ height
  pub are_rows : AllByRecursion (IsRow width) rows
  pub cells_are : cells ≡ flat_map (map is_passable) rows

one_more : (height width : ℕ) (before middle after : Unread) (row cells : List Bool) → LineRead (row_line width) before row middle → RowsRead height width middle after cells → RowsRead (suc height) width before after (row ++ cells)
one_more height width before middle after row cells first rest =
    let f = row_found width first.line row first.says in
    let n : middle.count ≡ before.count + 1 = first.count in
    let m : after.count ≡ middle.count + length rest.rows = rest.count in
    record {
      rows = first.line ∷ rest.rows;
      parts = first.lines ∙ ap (λ (ls : List (List ℕ)). first.line ∷ ls) rest.parts;
      count = omega arith;
      height_is = ap suc rest.height_is;
      are_rows = (f.0, rest.are_rows);
      cells_are = ap (λ (r : List Bool). r ++ cells) f.1 ∙ ap (λ (c : List Bool). map is_passable first.line ++ c) rest.cells_are;
    }

pub rows_found : (height width : ℕ) (u : Unread) (x : List Bool × Unread) → rows_of height width u ≡ Ok x → RowsRead height width u x.1 x.0
unfolding rows_of
rows_found zero width u x e =
    let made : List Bool × Unread = ([], u) in
    subst (λ (y : List Bool × Unread). RowsRead 0 width u y.1 y.0) (ok_is made x e) (record { rows = []; parts = refl; count = omega arith; height_is = refl; are_rows = tt; cells_are = refl })
rows_found (suc height) width u x e =
    let a = bind_ok (line_by RowsMissing (row_line width) u) (λ row. rows_of height width row.1 >>= λ rest. Ok (row.0 ++ rest.0, rest.1)) x e in
    let b = bind_ok (rows_of height width a.0.1) (λ rest. Ok (a.0.0 ++ rest.0, rest.1)) x a.2 in
    let made : List Bool × Unread = (a.0.0 ++ b.0.0, b.0.1) in
    let first = line_ok RowsMissing (row_line width) u.count u.lines a.0.0 a.0.1 a.1 in
    subst (λ (y : List Bool × Unread). RowsRead (suc height) width u y.1 y.0) (ok_is made x b.2) (one_more height width u a.0.1 b.0.1 a.0.0 b.0.0 first (rows_found height width a.0.1 b.0 b.1))

row_cells : (width : ℕ) (rows : List (List ℕ)) → AllByRecursion (IsRow width) rows → length (flat_map (map is_passable) rows) ≡ width * length rows
row_cells width [] h = omega arith
row_cells width (row ∷ rows) h =
    let joined : length (map is_passable row ++ flat_map (map is_passable) rows) ≡ length (map is_passable row) + length (flat_map (map is_passable) rows) = length-append (map is_passable row) (flat_map (map is_passable) rows) in
    let one : length (map is_passable row) ≡ length row = length-map row is_passable in
    let columns : length row ≡ width = h.0.columns in
    let rest : length (flat_map (map is_passable) rows) ≡ width * length rows = row_cells width rows h.1 in
    let product : width * suc (length rows) ≡ width + width * length rows = omega arith in
    omega arith

-- what the rows give is a cell for each row and column
pub cells_count : (height width : ℕ) (u after : Unread) (cells : List Bool) → rows_of height width u ≡ Ok (cells, after) → length cells ≡ width * height
cells_count height width u after cells e =
    let r = rows_found height width u (cells, after) e in
    let same : length cells ≡ length (flat_map (map is_passable) r.rows) = ap (λ (l : List Bool). length l) r.cells_are in
    let count : length (flat_map (map is_passable) r.rows) ≡ width * length r.rows = row_cells width r.rows r.are_rows in
    let tall : width * length r.rows ≡ width * height = ap (λ (n : ℕ). width * n) r.height_is in
    same ∙ count ∙ tall

pub rows_again : (width : ℕ) (rows rest : List (List ℕ)) (count : ℕ) → AllByRecursion (IsRow width) rows
    → (after : ℕ) × (rows_of (length rows) width (record { lines = rows ++ rest; count = count }) ≡ Ok (flat_map (map is_passable) rows, record { lines = rest; count = after }))
unfolding rows_of
rows_again width [] rest count h = (count, refl)
rows_again width (row ∷ rows) rest count h =
    let ih = rows_again width rows rest (count + 1) h.1 in
    (ih.0, rw (row_again width row h.0, ih.1) refl)

-- blanks
pub blanks_found : (count : ℕ) (lines : List (List ℕ)) → blanks_of count lines ≡ Ok tt → AllByRecursion IsBlank lines
unfolding blanks_of
blanks_found count [] e = tt
blanks_found count (line ∷ lines) e =
    let a = bind_ok (located (record { lines = lines; count = count + 1 }) (blank_line line)) (λ blank. blanks_of (count + 1) lines) tt e in
    let b = located_ok (record { lines = lines; count = count + 1 }) a.0.1 (blank_line line) a.0.0 a.1 in
    ((guard_ok (list_all is_blank line) TextAfter tt a.0.0 b.0).0, blanks_found (count + 1) lines a.2)

pub blanks_again : (count : ℕ) (lines : List (List ℕ)) → AllByRecursion IsBlank lines → blanks_of count lines ≡ Ok tt
unfolding blanks_of
blanks_again count [] h = refl
blanks_again count (line ∷ lines) h = rw (h.0) (blanks_again (count + 1) lines h.1)

-- the head
abbrev pub HasSides : Size → List ℕ → List ℕ → Type 0
HasSides size second third =
    (IsSide (codes "height") size.height second × IsSide (codes "width") size.width third) ⊎ (IsSide (codes "width") size.width second × IsSide (codes "height") size.height third)

pub record HeadRead (before after : Unread) (size : Size) : Type 0 where
  pub start : List ℕ
  pub second : List ℕ
  pub third : List ℕ
  pub fourth : List ℕ
  pub parts : before.lines ≡ start ∷ second ∷ third ∷ fourth ∷ after.lines
  pub count : after.count ≡ before.count + 4
  pub kind : List ℕ
  pub is_type : words_of start ≡ codes "type" ∷ kind ∷ []
  pub sides : HasSides size second third
  pub is_map : words_of fourth ≡ codes "map" ∷ []

two_sides : (side : Side) (n m : ℕ) (second third : List ℕ) → IsSide (name_of_side side) n second → IsSide (name_of_side (other_side side)) m third → HasSides (sides_by side n m) second third
two_sides Height n m second third a b = inl (a, b)
two_sides Width n m second third a b = inr (a, b)

first_found : (line : List ℕ) (x : Side × ℕ) → first_side_line line ≡ Ok x → IsSide (name_of_side x.0) x.1 line
first_found line x e =
    let a = some_side_ok (side_named (words_of line)) (side_line (side_named (words_of line)) line) x.0 x.1 e in
    subst (λ (side : Side). IsSide (name_of_side side) x.1 line) a.0 (side_found (side_named (words_of line)) x.1 line a.1)

pub head_found : (u : Unread) (x : Size × Unread) → head_of u ≡ Ok x → HeadRead u x.1 x.0
unfolding head_of
head_found u x e =
    let a = bind_ok (line_by Head type_line u) (λ start. line_by Head first_side_line start.1 >>= λ first. line_by Head (side_line (other_side first.0.0)) first.1 >>= λ second. line_by Head map_line second.1 >>= λ last. Ok (sides_by first.0.0 first.0.1 second.0, last.1)) x e in
    let b = bind_ok (line_by Head first_side_line a.0.1) (λ first. line_by Head (side_line (other_side first.0.0)) first.1 >>= λ second. line_by Head map_line second.1 >>= λ last. Ok (sides_by first.0.0 first.0.1 second.0, last.1)) x a.2 in
    let c = bind_ok (line_by Head (side_line (other_side b.0.0.0)) b.0.1) (λ second. line_by Head map_line second.1 >>= λ last. Ok (sides_by b.0.0.0 b.0.0.1 second.0, last.1)) x b.2 in
    let d = bind_ok (line_by Head map_line c.0.1) (λ last. Ok (sides_by b.0.0.0 b.0.0.1 c.0.0, last.1)) x c.2 in
    let made : Size × Unread = (sides_by b.0.0.0 b.0.0.1 c.0.0, d.0.1) in
    let l1 = line_ok Head type_line u.count u.lines a.0.0 a.0.1 a.1 in
    let l2 = line_ok Head first_side_line a.0.1.count a.0.1.lines b.0.0 b.0.1 b.1 in
    let l3 = line_ok Head (side_line (other_side b.0.0.0)) b.0.1.count b.0.1.lines c.0.0 c.0.1 c.1 in
    let l4 = line_ok Head map_line c.0.1.count c.0.1.lines d.0.0 d.0.1 d.1 in
    let t = type_found (words_of l1.line) l1.says in
    subst (λ (y : Size × Unread). HeadRead u y.1 y.0) (ok_is made x d.2) (record {
      start = l1.line;
      second = l2.line;
      third = l3.line;
      fourth = l4.line;
      parts = l1.lines ∙ ap (λ (ls : List (List ℕ)). l1.line ∷ ls) (l2.lines ∙ ap (λ (ls : List (List ℕ)). l2.line ∷ ls) (l3.lines ∙ ap (λ (ls : List (List ℕ)). l3.line ∷ ls) l4.lines));
      count = (let c1 : a.0.1.count ≡ u.count + 1 = l1.count in let c2 : b.0.1.count ≡ a.0.1.count + 1 = l2.count in let c3 : c.0.1.count ≡ b.0.1.count + 1 = l3.count in let c4 : d.0.1.count ≡ c.0.1.count + 1 = l4.count in omega arith);
      kind = t.0;
      is_type = t.1;
      sides = two_sides b.0.0.0 b.0.0.1 c.0.0 l2.line l3.line (first_found l2.line b.0.0 l2.says) (side_found (other_side b.0.0.0) c.0.0 l3.line l3.says);
      is_map = map_found (words_of l4.line) l4.says;
    })

-- what is read as a map is one
pub map_is_found : (lines : List (List ℕ)) (floor : Floor) → map_of (record { lines = lines; count = 0 }) ≡ Ok floor → IsMap lines floor
unfolding map_of
map_is_found lines floor e =
    let u : Unread = record { lines = lines; count = 0 } in
    let a = bind_ok (head_of u) (λ head. rows_of head.0.height head.0.width head.1 >>= λ rows. blanks_of rows.1.count rows.1.lines >>= λ rest. Ok (record { width = head.0.width; height = head.0.height; walkable = rows.0 })) floor e in
    let b = bind_ok (rows_of a.0.0.height a.0.0.width a.0.1) (λ rows. blanks_of rows.1.count rows.1.lines >>= λ rest. Ok (record { width = a.0.0.width; height = a.0.0.height; walkable = rows.0 })) floor a.2 in
    let c = bind_ok (blanks_of b.0.1.count b.0.1.lines) (λ rest. Ok (record { width = a.0.0.width; height = a.0.0.height; walkable = b.0.0 })) floor b.2 in
    let made : Floor = record { width = a.0.0.width; height = a.0.0.height; walkable = b.0.0 } in
    let head = head_found u a.0 a.1 in
    let rows = rows_found a.0.0.height a.0.0.width a.0.1 b.0 b.1 in
    subst (λ (f : Floor). IsMap lines f) (ok_is made floor c.2) (record {
      start = head.start;
      second = head.second;
      third = head.third;
      fourth = head.fourth;
      rows = rows.rows;
      rest = b.0.1.lines;
      parts = head.parts ∙ ap (λ (ls : List (List ℕ)). head.start ∷ head.second ∷ head.third ∷ head.fourth ∷ ls) rows.parts;
      kind = head.kind;
      is_type = head.is_type;
      sides = head.sides;
      is_map = head.is_map;
      height = rows.height_is;
      are_rows = rows.are_rows;
      cells = rows.cells_are;
      are_blank = blanks_found b.0.1.count b.0.1.lines c.1;
    })

-- and the other way
first_again : (side : Side) (n : ℕ) (line : List ℕ) → IsSide (name_of_side side) n line → first_side_line line ≡ Ok (side, n)
first_again side n line h = rw (named_again side n line h, side_again side n line h) refl

head_again : (start second third fourth : List ℕ) (rest : List (List ℕ)) (side : Side) (n m : ℕ) → type_line start ≡ Ok tt → first_side_line second ≡ Ok (side, n) → side_line (other_side side) third ≡ Ok m → map_line fourth ≡ Ok tt
    → head_of (record { lines = start ∷ second ∷ third ∷ fourth ∷ rest; count = 0 }) ≡ Ok (sides_by side n m, record { lines = rest; count = 4 })
unfolding head_of
head_again start second third fourth rest side n m h1 h2 h3 h4 = rw (h1, h2, h3, h4) refl

sides_again : (size : Size) (second third : List ℕ) → HasSides size second third → (side : Side) × (n : ℕ) × (m : ℕ) × (first_side_line second ≡ Ok (side, n)) × (side_line (other_side side) third ≡ Ok m) × (sides_by side n m ≡ size)
sides_again size second third (inl h) = (Height, size.height, size.width, first_again Height size.height second h.0, side_again Width size.width third h.1, refl)
sides_again size second third (inr h) = (Width, size.width, size.height, first_again Width size.width second h.0, side_again Height size.height third h.1, refl)

type_again : (line kind : List ℕ) → words_of line ≡ codes "type" ∷ kind ∷ [] → type_line line ≡ Ok tt
type_again line kind h = rw h refl

map_line_again : (line : List ℕ) → words_of line ≡ codes "map" ∷ [] → map_line line ≡ Ok tt
map_line_again line h = rw h refl

-- each map is read
pub map_is_read : (lines : List (List ℕ)) (floor : Floor) → IsMap lines floor → map_of (record { lines = lines; count = 0 }) ≡ Ok floor
unfolding map_of
map_is_read lines floor h =
    let size : Size = record { width = floor.width; height = floor.height } in
    let s = sides_again size h.second h.third h.sides in
    let e = head_again h.start h.second h.third h.fourth (h.rows ++ h.rest) s.0 s.1 s.2 (type_again h.start h.kind h.is_type) s.3 s.4 (map_line_again h.fourth h.is_map) in
    let head : head_of (record { lines = lines; count = 0 }) ≡ Ok (size, record { lines = h.rows ++ h.rest; count = 4 }) =
    ap (λ (ls : List (List ℕ)). head_of (record { lines = ls; count = 0 })) h.parts ∙ e ∙ ap (λ (z : Size). Ok (z, record { lines = h.rows ++ h.rest; count = 4 })) s.5 in
    let r = rows_again floor.width h.rows h.rest 4 h.are_rows in
    let rows : rows_of floor.height floor.width (record { lines = h.rows ++ h.rest; count = 4 }) ≡ Ok (flat_map (map is_passable) h.rows, record { lines = h.rest; count = r.0 }) =
    subst (λ (n : ℕ). rows_of n floor.width (record { lines = h.rows ++ h.rest; count = 4 }) ≡ Ok (flat_map (map is_passable) h.rows, record { lines = h.rest; count = r.0 })) h.height r.1 in
    let blanks = blanks_again r.0 h.rest h.are_blank in
    rw (head, rows, blanks) (ap (λ (cells : List Bool). Ok (record { width = floor.width; height = floor.height; walkable = cells })) (sym h.cells))

-- Every fault is of a line that was there or of the one after the last.
abbrev last_line : Unread → ℕ
last_line u = u.count + length u.lines

Within : Unread → Fault → Type 0
Within u f = (u.count < f.line) × (f.line ≤ last_line u + 1)

located_within : {A : Type 0} (count : ℕ) (line : List ℕ) (lines : List (List ℕ)) (r : Result A MapKind) (f : Fault) → located (record { lines = lines; count = count + 1 }) r ≡ Err f → Within (record { lines = line ∷ lines; count = count }) f
unfolding Within
located_within count line lines (Ok x) f e = absurd cc
located_within {A} count line lines (Err kind) f e =
    let made : Fault = record { kind = kind; line = count + 1 } in
    let same : made ≡ f = cc in
    subst (λ (g : Fault). (count < g.line) × (g.line ≤ count + suc (length lines) + 1)) same (omega arith, omega arith)

line_within : {A : Type 0} (missing : MapKind) (read : List ℕ → Result A MapKind) (count : ℕ) (lines : List (List ℕ)) (f : Fault) → next_of missing read count lines ≡ Err f → Within (record { lines = lines; count = count }) f
unfolding Within
line_within missing read count [] f e =
    let made : Fault = record { kind = missing; line = count + 1 } in
    let same : made ≡ f = cc in
    subst (λ (g : Fault). (count < g.line) × (g.line ≤ count + 0 + 1)) same (omega arith, omega arith)
line_within missing read count (line ∷ lines) f e = located_within count line lines (read line) f e

-- after a line that was read
later : {A : Type 0} (read : List ℕ → Result A MapKind) (before after : Unread) (x : A) (f : Fault) → LineRead read before x after → Within after f → Within before f
unfolding Within
later read before after x f l h =
    let n : after.count ≡ before.count + 1 = l.count in
    let m : length before.lines ≡ suc (length after.lines) = ap length l.lines in
    let low : after.count < f.line = h.0 in
    let high : f.line ≤ after.count + length after.lines + 1 = h.1 in
    (omega arith, omega arith)

rows_within : (height width : ℕ) (u : Unread) (f : Fault) → rows_of height width u ≡ Err f → Within u f
unfolding rows_of
rows_within zero width u f e = absurd cc
rows_within (suc height) width u f e =
    elim (bind_err (line_by RowsMissing (row_line width) u) (λ row. rows_of height width row.1 >>= λ rest. Ok (row.0 ++ rest.0, rest.1)) f e) [
      | inl a ↦ line_within RowsMissing (row_line width) u.count u.lines f a
      | inr a ↦ later (row_line width) u a.0.1 a.0.0 f (line_ok RowsMissing (row_line width) u.count u.lines a.0.0 a.0.1 a.1) (
          elim (bind_err (rows_of height width a.0.1) (λ rest. Ok (a.0.0 ++ rest.0, rest.1)) f a.2) [
            | inl b ↦ rows_within height width a.0.1 f b
            | inr b ↦ absurd (let bad : done {A = List Bool × Unread} (a.0.0 ++ b.0.0, b.0.1) ≡ Err f = b.2 in cc)
          ])
    ]

pub blanks_within : (count : ℕ) (lines : List (List ℕ)) (f : Fault) → blanks_of count lines ≡ Err f → (count < f.line) × (f.line ≤ count + length lines + 1)
unfolding blanks_of Within
blanks_within count [] f e = absurd cc
blanks_within count (line ∷ lines) f e =
    elim (bind_err (located (record { lines = lines; count = count + 1 }) (blank_line line)) (λ blank. blanks_of (count + 1) lines) f e) [
      | inl a ↦ located_within count line lines (blank_line line) f a
      | inr a ↦ (let ih = blanks_within (count + 1) lines f a.2 in
          let low : count + 1 < f.line = ih.0 in
          let high : f.line ≤ count + 1 + length lines + 1 = ih.1 in
          (omega arith, omega arith))
    ]

head_within : (u : Unread) (f : Fault) → head_of u ≡ Err f → Within u f
unfolding head_of
head_within u f e =
    elim (bind_err (line_by Head type_line u) (λ start. line_by Head first_side_line start.1 >>= λ first. line_by Head (side_line (other_side first.0.0)) first.1 >>= λ second. line_by Head map_line second.1 >>= λ last. Ok (sides_by first.0.0 first.0.1 second.0, last.1)) f e) [
      | inl a ↦ line_within Head type_line u.count u.lines f a
      | inr a ↦ later type_line u a.0.1 a.0.0 f (line_ok Head type_line u.count u.lines a.0.0 a.0.1 a.1) (
          elim (bind_err (line_by Head first_side_line a.0.1) (λ first. line_by Head (side_line (other_side first.0.0)) first.1 >>= λ second. line_by Head map_line second.1 >>= λ last. Ok (sides_by first.0.0 first.0.1 second.0, last.1)) f a.2) [
            | inl b ↦ line_within Head first_side_line a.0.1.count a.0.1.lines f b
            | inr b ↦ later first_side_line a.0.1 b.0.1 b.0.0 f (line_ok Head first_side_line a.0.1.count a.0.1.lines b.0.0 b.0.1 b.1) (
                elim (bind_err (line_by Head (side_line (other_side b.0.0.0)) b.0.1) (λ second. line_by Head map_line second.1 >>= λ last. Ok (sides_by b.0.0.0 b.0.0.1 second.0, last.1)) f b.2) [
                  | inl c ↦ line_within Head (side_line (other_side b.0.0.0)) b.0.1.count b.0.1.lines f c
                  | inr c ↦ later (side_line (other_side b.0.0.0)) b.0.1 c.0.1 c.0.0 f (line_ok Head (side_line (other_side b.0.0.0)) b.0.1.count b.0.1.lines c.0.0 c.0.1 c.1) (
                      elim (bind_err (line_by Head map_line c.0.1) (λ last. Ok (sides_by b.0.0.0 b.0.0.1 c.0.0, last.1)) f c.2) [
                        | inl d ↦ line_within Head map_line c.0.1.count c.0.1.lines f d
                        | inr d ↦ absurd (let bad : done {A = Size × Unread} (sides_by b.0.0.0 b.0.0.1 c.0.0, d.0.1) ≡ Err f = d.2 in cc)
                      ])
                ])
          ])
    ]

after_head : (u : Unread) (x : Size × Unread) (f : Fault) → head_of u ≡ Ok x → Within x.1 f → Within u f
unfolding Within
after_head u x f e h =
    let r = head_found u x e in
    let c : x.1.count ≡ u.count + 4 = r.count in
    let m : length u.lines ≡ 4 + length x.1.lines = ap length r.parts ∙ omega arith in
    let low : x.1.count < f.line = h.0 in
    let high : f.line ≤ x.1.count + length x.1.lines + 1 = h.1 in
    (omega arith, omega arith)

after_rows : (height width : ℕ) (u : Unread) (x : List Bool × Unread) (f : Fault) → rows_of height width u ≡ Ok x → Within x.1 f → Within u f
unfolding Within
after_rows height width u x f e h =
    let r = rows_found height width u x e in
    let c : x.1.count ≡ u.count + length r.rows = r.count in
    let m : length u.lines ≡ length r.rows + length x.1.lines = ap length r.parts ∙ length-append r.rows x.1.lines in
    let low : x.1.count < f.line = h.0 in
    let high : f.line ≤ x.1.count + length x.1.lines + 1 = h.1 in
    (omega arith, omega arith)

-- a fault's line is at least 1, and at most the number of lines plus 1
pub fault_is_within : (lines : List (List ℕ)) (f : Fault) → map_of (record { lines = lines; count = 0 }) ≡ Err f → (1 ≤ f.line) × (f.line ≤ length lines + 1)
unfolding map_of Within
fault_is_within lines f e =
    let u : Unread = record { lines = lines; count = 0 } in
    let w : Within u f =
    elim (bind_err (head_of u) (λ head. rows_of head.0.height head.0.width head.1 >>= λ rows. blanks_of rows.1.count rows.1.lines >>= λ rest. Ok (record { width = head.0.width; height = head.0.height; walkable = rows.0 })) f e) [
      | inl a ↦ head_within u f a
      | inr a ↦ after_head u a.0 f a.1 (
          elim (bind_err (rows_of a.0.0.height a.0.0.width a.0.1) (λ rows. blanks_of rows.1.count rows.1.lines >>= λ rest. Ok (record { width = a.0.0.width; height = a.0.0.height; walkable = rows.0 })) f a.2) [
            | inl b ↦ rows_within a.0.0.height a.0.0.width a.0.1 f b
            | inr b ↦ after_rows a.0.0.height a.0.0.width a.0.1 b.0 f b.1 (
                elim (bind_err (blanks_of b.0.1.count b.0.1.lines) (λ rest. Ok (record { width = a.0.0.width; height = a.0.0.height; walkable = b.0.0 })) f b.2) [
                  | inl c ↦ blanks_within b.0.1.count b.0.1.lines f c
                  | inr c ↦ absurd (let bad : done {A = Floor} (record { width = a.0.0.width; height = a.0.0.height; walkable = b.0.0 }) ≡ Err f = c.2 in cc)
                ])
          ])
    ] in
    let low : 0 < f.line = w.0 in
    let high : f.line ≤ 0 + length lines + 1 = w.1 in
    (omega arith, omega arith)
