-- What follows a fault's line changes nothing.
use Rattle.std.proofs.Common.{◌≡◌, ℕ, zero, suc, ◌+◌, ◌<◌, ◌≤◌, Bool, true, false, cond, List, [], ◌∷◌, ◌++◌, length, take, drop, Result, Ok, Err, sym, ap, ◌∙◌, inl, inr, arith}
use Rattle.wh_text.specs.Lines.{Unread}
use Rattle.wh_grid.specs.declared.fault.MapKind.{MapKind}
use Rattle.wh_grid.specs.declared.fault.MapKind.TheVariants.{Head, RowsMissing, TextAfter}
use Rattle.wh_grid.specs.declared.fault.Fault.{Fault}
use Rattle.wh_grid.specs.declared.head.Size.{Size}
use Rattle.wh_grid.specs.Grids.{Floor}
use Rattle.std.proofs.lemmas.List.{take-append-drop, length-take-le}
use Rattle.wh_grid.specs.Faults.{◌>>=◌, located, next_of, line_by}
use Rattle.std.specs.List.{list_all}
use Rattle.wh_text.specs.Words.{is_blank}
use Rattle.wh_grid.specs.MapLines.{type_line, first_side_line, side_line, other_side, map_line, row_line}
use Rattle.wh_grid.specs.Maps.{rows_of, blanks_of, head_of, map_of, sides_by}
use Rattle.wh_grid.proofs.Steps.{bind_ok, bind_err, located_ok}
use Rattle.wh_grid.proofs.GrammarLemmas.{blanks_within}

abbrev pub left : List (List ℕ) → List (List ℕ) → ℕ → Unread
left front rest count = record { lines = front ++ rest; count = count }

-- A reader's answer comes from the lines that it has read: a fault of a line of the front stays the same with
-- another rest, and so does a value after which some of the front is left.
pub record IsLocal {A : Type 0} (read : Unread → Result (A × Unread) Fault) : Type 0 where
  pub later : (u : Unread) (f : Fault) → read u ≡ Err f → u.count < f.line
  pub grows : (u : Unread) (x : A) (after : Unread) → read u ≡ Ok (x, after) → u.count ≤ after.count
  pub faults : (front rest more : List (List ℕ)) (count : ℕ) (f : Fault) → f.line ≤ count + length front → read (left front rest count) ≡ Err f → read (left front more count) ≡ Err f
  pub values : (front rest more : List (List ℕ)) (count : ℕ) (x : A) (after : Unread) → after.count ≤ count + length front → read (left front rest count) ≡ Ok (x, after)
      → (back : List (List ℕ)) × (after ≡ left back rest after.count) × (after.count + length back ≡ count + length front) × (read (left front more count) ≡ Ok (x, left back more after.count))

-- one line
line_is_local : {A : Type 0} (missing : MapKind) (read : List ℕ → Result A MapKind) → IsLocal (line_by missing read)
line_is_local {A} missing read = record {
  later = λ u f. fault_later u.count u.lines f;
  grows = λ u x after. value_later u.count u.lines x after;
  faults = λ front rest more count f. faults front rest more count f;
  values = λ front rest more count x after. values front rest more count x after;
}
  where
    located_later : (lines : List (List ℕ)) (count : ℕ) (r : Result A MapKind) (f : Fault) → located (record { lines = lines; count = count + 1 }) r ≡ Err f → count < f.line
    located_later lines count (Ok x) f e = absurd cc
    located_later lines count (Err kind) f e = let made : Fault = record { kind = kind; line = count + 1 } in let h : made ≡ f = cc in let n : count + 1 ≡ f.line = ap (λ (g : Fault). g.line) h in omega arith

    fault_later : (count : ℕ) (lines : List (List ℕ)) (f : Fault) → next_of missing read count lines ≡ Err f → count < f.line
    fault_later count [] f e = let made : Fault = record { kind = missing; line = count + 1 } in let h : made ≡ f = cc in let n : count + 1 ≡ f.line = ap (λ (g : Fault). g.line) h in omega arith
    fault_later count (line ∷ lines) f e = located_later lines count (read line) f e

    value_next : (count : ℕ) (lines : List (List ℕ)) (x : A) (after : Unread) → next_of missing read count lines ≡ Ok (x, after) → after.count ≡ count + 1
    value_next count [] x after e = absurd cc
    value_next count (line ∷ lines) x after e = ap (λ (u : Unread). u.count) ((located_ok (record { lines = lines; count = count + 1 }) after (read line) x e).1)

    value_later : (count : ℕ) (lines : List (List ℕ)) (x : A) (after : Unread) → next_of missing read count lines ≡ Ok (x, after) → count ≤ after.count
    value_later count lines x after e = let n : after.count ≡ count + 1 = value_next count lines x after e in omega arith

    located_fault : (rest more : List (List ℕ)) (n : ℕ) (r : Result A MapKind) (f : Fault) → located (record { lines = rest; count = n }) r ≡ Err f → located (record { lines = more; count = n }) r ≡ Err f
    located_fault rest more n (Ok x) f e = absurd cc
    located_fault rest more n (Err kind) f e = let made : Fault = record { kind = kind; line = n } in let h : made ≡ f = cc in ap (λ (g : Fault). Err g) h

    faults : (front rest more : List (List ℕ)) (count : ℕ) (f : Fault) → f.line ≤ count + length front → line_by missing read (left front rest count) ≡ Err f → line_by missing read (left front more count) ≡ Err f
    faults [] rest more count f le e = let n : count < f.line = fault_later count rest f e in let z : f.line ≤ count + 0 = le in absurd (omega arith)
    faults (line ∷ front) rest more count f le e = located_fault (front ++ rest) (front ++ more) (count + 1) (read line) f e

    values : (front rest more : List (List ℕ)) (count : ℕ) (x : A) (after : Unread) → after.count ≤ count + length front → line_by missing read (left front rest count) ≡ Ok (x, after)
        → (back : List (List ℕ)) × (after ≡ left back rest after.count) × (after.count + length back ≡ count + length front) × (line_by missing read (left front more count) ≡ Ok (x, left back more after.count))
    values [] rest more count x after le e = let n : after.count ≡ count + 1 = value_next count rest x after e in let z : after.count ≤ count + 0 = le in absurd (omega arith)
    values (line ∷ front) rest more count x after le e =
        let h = located_ok (record { lines = front ++ rest; count = count + 1 }) after (read line) x e in
        let n : after.count ≡ count + 1 = ap (λ (u : Unread). u.count) h.1 in (
          front,
          h.1 ∙ ap (λ (k : ℕ). left front rest k) (sym n),
          omega arith,
          ap (λ (r : Result A MapKind). located (record { lines = front ++ more; count = count + 1 }) r) h.0 ∙ ap (λ (k : ℕ). Ok (x, left front more k)) (sym n),
        )

-- one reader after another
then_is_local : {A B : Type 0} (read : Unread → Result (A × Unread) Fault) (next : A → Unread → Result (B × Unread) Fault) → IsLocal read → ((x : A) → IsLocal (next x)) → IsLocal (λ u. read u >>= λ x. next x.0 x.1)
then_is_local {A} {B} read next first second = record {
  later = λ u f e. elim (bind_err (read u) (λ x. next x.0 x.1) f e) [
    | inl a ↦ first.later u f a
    | inr a ↦ (let n : u.count ≤ a.0.1.count = first.grows u a.0.0 a.0.1 a.1 in let m : a.0.1.count < f.line = (second a.0.0).later a.0.1 f a.2 in omega arith)
  ];
  grows = λ u y after e. (
      let a = bind_ok (read u) (λ x. next x.0 x.1) (y, after) e in
      let n : u.count ≤ a.0.1.count = first.grows u a.0.0 a.0.1 a.1 in
      let m : a.0.1.count ≤ after.count = (second a.0.0).grows a.0.1 y after a.2 in omega arith);
  faults = λ front rest more count f le e. elim (bind_err (read (left front rest count)) (λ x. next x.0 x.1) f e) [
    | inl a ↦ ap (λ (r : Result (A × Unread) Fault). r >>= λ x. next x.0 x.1) (first.faults front rest more count f le a)
    | inr a ↦ (
        let m : a.0.1.count < f.line = (second a.0.0).later a.0.1 f a.2 in
        let v = first.values front rest more count a.0.0 a.0.1 (omega arith) a.1 in
        let n : a.0.1.count + length v.0 ≡ count + length front = v.2 in
        let there : next a.0.0 (left v.0 rest a.0.1.count) ≡ Err f = ap (λ (u : Unread). next a.0.0 u) (sym v.1) ∙ a.2 in
        ap (λ (r : Result (A × Unread) Fault). r >>= λ x. next x.0 x.1) v.3 ∙ (second a.0.0).faults v.0 rest more a.0.1.count f (omega arith) there)
  ];
  values = λ front rest more count y after le e. (
      let a = bind_ok (read (left front rest count)) (λ x. next x.0 x.1) (y, after) e in
      let m : a.0.1.count ≤ after.count = (second a.0.0).grows a.0.1 y after a.2 in
      let v = first.values front rest more count a.0.0 a.0.1 (omega arith) a.1 in
      let n : a.0.1.count + length v.0 ≡ count + length front = v.2 in
      let there : next a.0.0 (left v.0 rest a.0.1.count) ≡ Ok (y, after) = ap (λ (u : Unread). next a.0.0 u) (sym v.1) ∙ a.2 in
      let w = (second a.0.0).values v.0 rest more a.0.1.count y after (omega arith) there in
      (w.0, w.1, w.2 ∙ n, ap (λ (r : Result (A × Unread) Fault). r >>= λ x. next x.0 x.1) v.3 ∙ w.3));
}

pure_is_local : {A : Type 0} (x : A) → IsLocal (λ u. Ok (x, u))
pure_is_local {A} x = record {
  later = λ u f e. absurd cc;
  grows = λ u y after e. (let pair : (x, u) ≡ (y, after) = cc in let n : u.count ≡ after.count = ap (λ (p : A × Unread). p.1.count) pair in omega arith);
  faults = λ front rest more count f le e. absurd cc;
  values = λ front rest more count y after le e. (
      let pair : (x, left front rest count) ≡ (y, after) = cc in
      let same : left front rest count ≡ after = ap (λ (p : A × Unread). p.1) pair in
      let n : count ≡ after.count = ap (λ (u : Unread). u.count) same in
      let value : x ≡ y = ap (λ (p : A × Unread). p.0) pair in
      (front, sym same ∙ ap (λ (k : ℕ). left front rest k) n, omega arith, ap (λ (z : A). Ok (z, left front more count)) value ∙ ap (λ (k : ℕ). Ok (y, left front more k)) n));
}

rows_are_local : (height width : ℕ) → IsLocal (rows_of height width)
unfolding rows_of
rows_are_local zero width = pure_is_local []
rows_are_local (suc height) width =
    then_is_local (line_by RowsMissing (row_line width)) (λ row u. rows_of height width u >>= λ rest. Ok (row ++ rest.0, rest.1)) (line_is_local RowsMissing (row_line width))
    (λ row. then_is_local (rows_of height width) (λ rest u. Ok (row ++ rest, u)) (rows_are_local height width) (λ rest. pure_is_local (row ++ rest)))

head_is_local : IsLocal head_of
unfolding head_of
head_is_local =
    then_is_local (line_by Head type_line) (λ start u. line_by Head first_side_line u >>= λ first. line_by Head (side_line (other_side first.0.0)) first.1 >>= λ second. line_by Head map_line second.1 >>= λ last. Ok (sides_by first.0.0 first.0.1 second.0, last.1)) (line_is_local Head type_line)
    (λ start. then_is_local (line_by Head first_side_line) (λ first u. line_by Head (side_line (other_side first.0)) u >>= λ second. line_by Head map_line second.1 >>= λ last. Ok (sides_by first.0 first.1 second.0, last.1)) (line_is_local Head first_side_line)
    (λ first. then_is_local (line_by Head (side_line (other_side first.0))) (λ second u. line_by Head map_line u >>= λ last. Ok (sides_by first.0 first.1 second, last.1)) (line_is_local Head (side_line (other_side first.0)))
    (λ second. then_is_local (line_by Head map_line) (λ last u. Ok (sides_by first.0 first.1 second, u)) (line_is_local Head map_line) (λ last. pure_is_local (sides_by first.0 first.1 second)))))

-- nothing but blanks, as a reader that leaves nothing
abbrev says : Bool → Result Unit MapKind
says blank = cond blank (Ok tt) (Err TextAfter)

blank_then : Unread → Bool → Result Unit Fault → Result Unit Fault
blank_then after blank rest = located after (says blank) >>= λ x. rest

blank_step : (front rest more : List (List ℕ)) (count : ℕ) (f : Fault) (b : Bool) → (blanks_of count (front ++ rest) ≡ Err f → blanks_of count (front ++ more) ≡ Err f)
    → blank_then (left front rest count) b (blanks_of count (front ++ rest)) ≡ Err f → blank_then (left front more count) b (blanks_of count (front ++ more)) ≡ Err f
unfolding blank_then
blank_step front rest more count f true h e = h e
blank_step front rest more count f false h e = e

blanks_fault : (front rest more : List (List ℕ)) (count : ℕ) (f : Fault) → f.line ≤ count + length front → blanks_of count (front ++ rest) ≡ Err f → blanks_of count (front ++ more) ≡ Err f
unfolding blanks_of blank_then
blanks_fault [] rest more count f le e = let n = blanks_within count rest f e in let m : count < f.line = n.0 in let z : f.line ≤ count + 0 = le in absurd (omega arith)
blanks_fault (line ∷ front) rest more count f le e =
    let n : f.line ≤ count + 1 + length front = omega arith in
    blank_step front rest more (count + 1) f (list_all is_blank line) (λ h. blanks_fault front rest more (count + 1) f n h) e

-- a reader, and then what only fails
then_fault : {A B : Type 0} (read : Unread → Result (A × Unread) Fault) (next : A → Unread → Result B Fault) → IsLocal read
    → ((x : A) (u : Unread) (f : Fault) → next x u ≡ Err f → u.count < f.line)
    → ((x : A) (front rest more : List (List ℕ)) (count : ℕ) (f : Fault) → f.line ≤ count + length front → next x (left front rest count) ≡ Err f → next x (left front more count) ≡ Err f)
    → (front rest more : List (List ℕ)) (count : ℕ) (f : Fault) → f.line ≤ count + length front → (read (left front rest count) >>= λ x. next x.0 x.1) ≡ Err f → (read (left front more count) >>= λ x. next x.0 x.1) ≡ Err f
then_fault {A} {B} read next first later second front rest more count f le e =
    elim (bind_err (read (left front rest count)) (λ x. next x.0 x.1) f e) [
      | inl a ↦ (let h : read (left front more count) ≡ Err f = first.faults front rest more count f le a in ap (λ (r : Result (A × Unread) Fault). r >>= λ x. next x.0 x.1) h)
      | inr a ↦ (
          let m : a.0.1.count < f.line = later a.0.0 a.0.1 f a.2 in
          let v = first.values front rest more count a.0.0 a.0.1 (omega arith) a.1 in
          let n : a.0.1.count + length v.0 ≡ count + length front = v.2 in
          let there : next a.0.0 (left v.0 rest a.0.1.count) ≡ Err f = ap (λ (u : Unread). next a.0.0 u) (sym v.1) ∙ a.2 in
          ap (λ (r : Result (A × Unread) Fault). r >>= λ x. next x.0 x.1) v.3 ∙ second a.0.0 v.0 rest more a.0.1.count f (omega arith) there)
    ]

made : Size → List Bool → Floor
made size cells = record { width = size.width; height = size.height; walkable = cells }

last : Size → List Bool → Unread → Result Floor Fault
last size cells u = blanks_of u.count u.lines >>= λ rest. Ok (made size cells)

last_later : (size : Size) (cells : List Bool) (u : Unread) (f : Fault) → last size cells u ≡ Err f → u.count < f.line
unfolding last
last_later size cells u f e = elim (bind_err (blanks_of u.count u.lines) (λ rest. Ok (made size cells)) f e) [
  | inl a ↦ (blanks_within u.count u.lines f a).0
  | inr a ↦ absurd (let bad : Ok (made size cells) ≡ Err f = a.2 in cc)
]

last_fault : (size : Size) (cells : List Bool) (front rest more : List (List ℕ)) (count : ℕ) (f : Fault) → f.line ≤ count + length front → last size cells (left front rest count) ≡ Err f → last size cells (left front more count) ≡ Err f
unfolding last
last_fault size cells front rest more count f le e = elim (bind_err (blanks_of count (front ++ rest)) (λ rest. Ok (made size cells)) f e) [
  | inl a ↦ ap (λ (r : Result Unit Fault). r >>= λ x. Ok (made size cells)) (blanks_fault front rest more count f le a)
  | inr a ↦ absurd (let bad : Ok (made size cells) ≡ Err f = a.2 in cc)
]

body : Size → Unread → Result Floor Fault
body size u = rows_of size.height size.width u >>= λ rows. last size rows.0 rows.1

body_later : (size : Size) (u : Unread) (f : Fault) → body size u ≡ Err f → u.count < f.line
unfolding body
body_later size u f e = elim (bind_err (rows_of size.height size.width u) (λ rows. last size rows.0 rows.1) f e) [
  | inl a ↦ (rows_are_local size.height size.width).later u f a
  | inr a ↦ (let n : u.count ≤ a.0.1.count = (rows_are_local size.height size.width).grows u a.0.0 a.0.1 a.1 in let m : a.0.1.count < f.line = last_later size a.0.0 a.0.1 f a.2 in omega arith)
]

body_fault : (size : Size) (front rest more : List (List ℕ)) (count : ℕ) (f : Fault) → f.line ≤ count + length front → body size (left front rest count) ≡ Err f → body size (left front more count) ≡ Err f
unfolding body
body_fault size = then_fault (rows_of size.height size.width) (λ cells u. last size cells u) (rows_are_local size.height size.width) (last_later size) (last_fault size)

-- nothing after a fault's line changes it
pub fault_is_first : (front rest more : List (List ℕ)) (f : Fault) → f.line ≤ length front → map_of (left front rest 0) ≡ Err f → map_of (left front more 0) ≡ Err f
unfolding map_of body last made
fault_is_first front rest more f le e = then_fault head_of (λ size u. body size u) head_is_local body_later body_fault front rest more 0 f (omega arith) e

pub first_lines_decide : (lines more : List (List ℕ)) (f : Fault) → f.line ≤ length lines → map_of (record { lines = lines; count = 0 }) ≡ Err f → map_of (record { lines = take f.line lines ++ more; count = 0 }) ≡ Err f
first_lines_decide lines more f le e =
    let long : length (take f.line lines) ≡ f.line = length-take-le f.line lines le in
    let whole : map_of (left (take f.line lines) (drop f.line lines) 0) ≡ Err f = ap (λ (ls : List (List ℕ)). map_of (record { lines = ls; count = 0 })) (take-append-drop f.line lines) ∙ e in
    fault_is_first (take f.line lines) (drop f.line lines) more f (omega arith) whole
