-- Texts and what they say, by computation.
use Rattle.std.proofs.Common.{◌≡◌, ℕ, zero, suc, ◌+◌, ◌-◌, Bool, true, false, List, [], ◌∷◌, ◌++◌, take, length, map, Result, Ok, Err, refl}
use Rattle.std.specs.Prelude.{codes}
use Rattle.std.specs.List.{flat_map}
use Rattle.wh_grid.specs.declared.fault.MapKind.{MapKind}
use Rattle.wh_grid.specs.declared.fault.MapKind.TheVariants.{Head, Size, RowLength, Letter, RowsMissing, TextAfter, TooLarge}
use Rattle.wh_grid.specs.declared.fault.Fault.{Fault}
use Rattle.wh_grid.specs.Grids.{Floor}
use Rattle.wh_grid.specs.Maps.{map_at, map_of, head_of, rows_of, blanks_of}

-- lines with their line feeds
text : List (List ℕ) → List ℕ
text lines = flat_map (λ line. line ++ 10 ∷ []) lines

-- lines with carriage returns and line feeds
text_cr : List (List ℕ) → List ℕ
text_cr lines = flat_map (λ line. line ++ 13 ∷ 10 ∷ []) lines

map_a_lines : List (List ℕ)
map_a_lines = codes "type octile" ∷ codes "height 3" ∷ codes "width 5" ∷ codes "map" ∷ codes "@.@.@" ∷ codes "....." ∷ codes "@.@.@" ∷ []

abbrev o : Bool
o = true

abbrev x : Bool
x = false

floor_a : Floor
floor_a = record { width = 5; height = 3; walkable = x ∷ o ∷ x ∷ o ∷ x ∷ o ∷ o ∷ o ∷ o ∷ o ∷ x ∷ o ∷ x ∷ o ∷ x ∷ [] }

at : MapKind → ℕ → Result Floor Fault
at kind line = Err (record { kind = kind; line = line })

row_a : map_at (text map_a_lines) ≡ Ok floor_a
unfolding map_of head_of rows_of blanks_of text map_a_lines floor_a
row_a = refl

-- CR LF ends, and no line end after the last row
row_1_cr : map_at (take (length (text_cr map_a_lines) - 2) (text_cr map_a_lines)) ≡ Ok floor_a
unfolding map_of head_of rows_of blanks_of text_cr map_a_lines floor_a
row_1_cr = refl

row_1_empty_lines : map_at (text (map_a_lines ++ [] ∷ [] ∷ [])) ≡ Ok floor_a
unfolding map_of head_of rows_of blanks_of text map_a_lines floor_a
row_1_empty_lines = refl

head_lines : List ℕ → List ℕ → List (List ℕ)
head_lines height width = codes "type octile" ∷ height ∷ width ∷ codes "map" ∷ []

small : List (List ℕ) → List (List ℕ)
small rows = head_lines (codes "height 1") (codes "width 3") ++ rows

row_2_short : map_at (text (small (codes ".." ∷ []))) ≡ at RowLength 5
unfolding map_of head_of rows_of blanks_of text head_lines small at
row_2_short = refl

row_2_letter : map_at (text (small (codes ".x." ∷ []))) ≡ at Letter 5
unfolding map_of head_of rows_of blanks_of text head_lines small at
row_2_letter = refl

row_2_zero : map_at (text (head_lines (codes "height 0") (codes "width 3"))) ≡ at Size 2
unfolding map_of head_of rows_of blanks_of text head_lines small at
row_2_zero = refl

row_2_large : map_at (text (head_lines (codes "height 5000") (codes "width 3"))) ≡ at TooLarge 2
unfolding map_of head_of rows_of blanks_of text head_lines small at
row_2_large = refl

row_2_missing : map_at (text (head_lines (codes "height 2") (codes "width 3") ++ codes "..." ∷ [])) ≡ at RowsMissing 6
unfolding map_of head_of rows_of blanks_of text head_lines small at
row_2_missing = refl

row_2_after : map_at (text (small (codes "..." ∷ codes "abc" ∷ []))) ≡ at TextAfter 6
unfolding map_of head_of rows_of blanks_of text head_lines small at
row_2_after = refl

row_2_empty : map_at [] ≡ at Head 1
unfolding map_of head_of at
row_2_empty = refl

row_23 : map_at (text (head_lines (codes "height 1") (codes "width 7") ++ codes ".GS@OTW" ∷ [])) ≡ Ok (record { width = 7; height = 1; walkable = o ∷ o ∷ o ∷ x ∷ x ∷ x ∷ x ∷ [] })
unfolding map_of head_of rows_of blanks_of text head_lines
row_23 = refl

-- more orders and forms of the head
width_first : map_at (text (head_lines (codes "  width\t007 ") (codes "height 1") ++ codes ".GS@OTW" ∷ [])) ≡ Ok (record { width = 7; height = 1; walkable = o ∷ o ∷ o ∷ x ∷ x ∷ x ∷ x ∷ [] })
unfolding map_of head_of rows_of blanks_of text head_lines
width_first = refl

height_twice : map_at (text (head_lines (codes "height 3") (codes "height 0"))) ≡ at Head 3
unfolding map_of head_of rows_of blanks_of text head_lines small at
height_twice = refl

-- n, n + 1 .. , up to a given count
from : ℕ → ℕ → List ℕ
from n zero = []
from n (suc k) = n ∷ from (n + 1) k

times : {A : Type 0} → ℕ → A → List A
times zero a = []
times (suc n) a = a ∷ times n a

-- what the first n bytes of the map say, for n from 0 to 51
cut_map : map (λ n. map_at (take n (text map_a_lines))) (from 0 52)
    ≡ times 6 (at Head 1) ++ times 14 (at Head 2) ++ times 8 (at Head 3) ++ times 4 (at Head 4) ++ times 2 (at RowsMissing 5) ++ times 4 (at RowLength 5)
    ++ times 2 (at RowsMissing 6) ++ times 4 (at RowLength 6) ++ times 2 (at RowsMissing 7) ++ times 4 (at RowLength 7) ++ times 2 (Ok floor_a)
unfolding map_of head_of rows_of blanks_of text map_a_lines floor_a at from times
cut_map = refl
