-- Lines that are right so far are completed to a map.
use Rattle.std.proofs.Common.{◌≡◌, ℕ, zero, suc, ◌+◌, ◌-◌, ◌≤◌, true, List, [], ◌∷◌, ◌++◌, length, map, refl, sym, ap, inl, inr, arith, subst, length-append}
use Rattle.std.specs.Prelude.{codes, replicate}
use Rattle.std.specs.List.{list_all, flat_map, AllByRecursion}
use Rattle.std.proofs.lemmas.List.{length-replicate, append_assoc, append-nil}
use Rattle.wh_text.specs.Words.{words_of}
use Rattle.wh_grid.specs.Grids.{Floor}
use Rattle.wh_grid.specs.declared.head.Side.{Side}
use Rattle.wh_grid.specs.declared.head.Side.TheVariants.{Height, Width}
use Rattle.wh_grid.specs.MapLines.{is_letter, is_passable, name_of_side, other_side}
use Rattle.wh_grid.specs.Grammar.{IsSide, IsRow, IsMap}
use Rattle.wh_first_fault.specs.MapFaults.{Begins, IsHead}

-- a row of open cells
abbrev pub open_row : ℕ → List ℕ
open_row width = replicate width 46

dots : (n : ℕ) → list_all is_letter (replicate n 46) ≡ true
dots zero = refl
dots (suc n) = dots n

open_is_row : (width : ℕ) → IsRow width (open_row width)
open_is_row width = record { columns = length-replicate width 46; letters = dots width }

rows_filled : (width n : ℕ) (rows : List (List ℕ)) → AllByRecursion (IsRow width) rows → AllByRecursion (IsRow width) (rows ++ replicate n (open_row width))
rows_filled width n (row ∷ rows) all = (all.0, rows_filled width n rows all.1)
rows_filled width zero [] all = tt
rows_filled width (suc n) [] all = (open_is_row width, rows_filled width n [] tt)

-- a head and some of its rows, with open rows behind
pub completed : (width height : ℕ) (start second third fourth : List ℕ) (rows : List (List ℕ)) → IsHead width height start second third fourth → AllByRecursion (IsRow width) rows → length rows ≤ height
    → Begins (start ∷ second ∷ third ∷ fourth ∷ rows)
completed width height start second third fourth rows head are few =
    let fill = replicate (height - length rows) (open_row width) in
    let size : length (rows ++ fill) ≡ length rows + length fill = length-append rows fill in
    let filled : length fill ≡ height - length rows = length-replicate (height - length rows) (open_row width) in
    record {
      more = fill;
      floor = record { width = width; height = height; walkable = flat_map (map is_passable) (rows ++ fill) };
      is_map = record {
        start = start;
        second = second;
        third = third;
        fourth = fourth;
        rows = rows ++ fill;
        rest = [];
        parts = ap (λ (ls : List (List ℕ)). start ∷ second ∷ third ∷ fourth ∷ ls) (sym (append-nil (rows ++ fill)));
        kind = head.kind;
        is_type = head.is_type;
        sides = head.sides;
        is_map = head.is_map;
        height = omega (arith, size, filled, few);
        are_rows = rows_filled width (height - length rows) rows are;
        cells = refl;
        are_blank = tt;
      };
    }

-- lines of a head
abbrev pub type_text : List ℕ
type_text = codes "type octile"

abbrev pub map_text : List ℕ
map_text = codes "map"

abbrev pub side_text : Side → List ℕ
side_text Height = codes "height 1"
side_text Width = codes "width 1"

one_long : (side : Side) → IsSide (name_of_side side) 1 (side_text side)
one_long Height = record { digits = codes "1"; words = refl; are_digits = refl; value = refl; positive = omega arith; within = omega arith }
one_long Width = record { digits = codes "1"; words = refl; are_digits = refl; value = refl; positive = omega arith; within = omega arith }

-- a head of two sides in either order
abbrev sides_long : Side → ℕ → ℕ → ℕ
sides_long Height n m = m
sides_long Width n m = n

abbrev sides_tall : Side → ℕ → ℕ → ℕ
sides_tall Height n m = n
sides_tall Width n m = m

pub head_of_sides : (side : Side) (n m : ℕ) (kind start second third fourth : List ℕ) → words_of start ≡ codes "type" ∷ kind ∷ [] → IsSide (name_of_side side) n second → IsSide (name_of_side (other_side side)) m third → words_of fourth ≡ codes "map" ∷ []
    → (width : ℕ) × (height : ℕ) × IsHead width height start second third fourth
head_of_sides Height n m kind start second third fourth t a b e = (m, n, record { kind = kind; is_type = t; sides = inl (a, b); is_map = e })
head_of_sides Width n m kind start second third fourth t a b e = (n, m, record { kind = kind; is_type = t; sides = inr (a, b); is_map = e })

-- any head begins a map
pub head_begins : (side : Side) (n m : ℕ) (kind start second third fourth : List ℕ) → words_of start ≡ codes "type" ∷ kind ∷ [] → IsSide (name_of_side side) n second → IsSide (name_of_side (other_side side)) m third → words_of fourth ≡ codes "map" ∷ []
    → Begins (start ∷ second ∷ third ∷ fourth ∷ [])
head_begins side n m kind start second third fourth t a b e =
    let h = head_of_sides side n m kind start second third fourth t a b e in
    completed h.0 h.1 start second third fourth [] h.2 tt (omega arith)

-- fewer lines
pub begins_fewer : (lines more : List (List ℕ)) → Begins (lines ++ more) → Begins lines
begins_fewer lines more b = record { more = more ++ b.more; floor = b.floor; is_map = subst (λ (ls : List (List ℕ)). IsMap ls b.floor) (append_assoc lines more b.more) b.is_map }

pub third_begins : (side : Side) (n m : ℕ) (kind start second third : List ℕ) → words_of start ≡ codes "type" ∷ kind ∷ [] → IsSide (name_of_side side) n second → IsSide (name_of_side (other_side side)) m third
    → Begins (start ∷ second ∷ third ∷ [])
third_begins side n m kind start second third t a b = begins_fewer (start ∷ second ∷ third ∷ []) (map_text ∷ []) (head_begins side n m kind start second third map_text t a b refl)

pub second_begins : (side : Side) (n : ℕ) (kind start second : List ℕ) → words_of start ≡ codes "type" ∷ kind ∷ [] → IsSide (name_of_side side) n second → Begins (start ∷ second ∷ [])
second_begins side n kind start second t a = begins_fewer (start ∷ second ∷ []) (side_text (other_side side) ∷ []) (third_begins side n 1 kind start second (side_text (other_side side)) t a (one_long (other_side side)))

pub start_begins : (kind start : List ℕ) → words_of start ≡ codes "type" ∷ kind ∷ [] → Begins (start ∷ [])
start_begins kind start t = begins_fewer (start ∷ []) (side_text Height ∷ []) (second_begins Height 1 kind start (side_text Height) t (one_long Height))

pub nothing_begins : Begins []
nothing_begins = begins_fewer [] (type_text ∷ []) (start_begins (codes "octile") type_text refl)

-- and a whole map begins one
pub whole_begins : (lines : List (List ℕ)) (floor : Floor) → IsMap lines floor → Begins lines
whole_begins lines floor is = record { more = []; floor = floor; is_map = subst (λ (ls : List (List ℕ)). IsMap ls floor) (sym (append-nil lines)) is }
