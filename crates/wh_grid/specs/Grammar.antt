-- The grammar of maps, apart from any order of reading.
use Rattle.std.specs.Prelude.{◌≡◌, ℕ, ◌<◌, ◌≤◌, ◌⊎◌, true, List, [], ◌∷◌, ◌++◌, length, map, codes}
use Rattle.std.specs.List.{list_all, flat_map, AllByRecursion}
use Rattle.wh_text.specs.Words.{is_blank, words_of}
use Rattle.wh_text.specs.Numbers.{are_digits, decimal}
use Rattle.wh_grid.specs.Grids.{Floor}
use Rattle.wh_grid.specs.MapLines.{is_letter, is_passable}

-- a line of two words, a side's name and its length in digits
pub record IsSide (name : List ℕ) (n : ℕ) (line : List ℕ) : Type 0 where
  pub digits : List ℕ
  pub words : words_of line ≡ name ∷ digits ∷ []
  pub are_digits : are_digits digits ≡ true
  pub value : decimal digits ≡ n
  pub positive : 0 < n
  pub within : n ≤ 4096

-- a letter for each column
pub record IsRow (width : ℕ) (line : List ℕ) : Type 0 where
  pub columns : length line ≡ width
  pub letters : list_all is_letter line ≡ true

abbrev pub IsBlank : List ℕ → Type 0
IsBlank line = list_all is_blank line ≡ true

-- these lines are a map of that floor
pub record IsMap (lines : List (List ℕ)) (floor : Floor) : Type 0 where
  pub start : List ℕ
  pub second : List ℕ
  pub third : List ℕ
  pub fourth : List ℕ
  pub rows : List (List ℕ)
  pub rest : List (List ℕ)
  pub parts : lines ≡ start ∷ second ∷ third ∷ fourth ∷ (rows ++ rest)
  pub kind : List ℕ
  pub is_type : words_of start ≡ codes "type" ∷ kind ∷ []
  pub sides : (IsSide (codes "height") floor.height second × IsSide (codes "width") floor.width third) ⊎ (IsSide (codes "width") floor.width second × IsSide (codes "height") floor.height third)
  pub is_map : words_of fourth ≡ codes "map" ∷ []
  pub height : length rows ≡ floor.height
  pub are_rows : AllByRecursion (IsRow floor.width) rows
  pub cells : floor.walkable ≡ flat_map (map is_passable) rows
  pub are_blank : AllByRecursion IsBlank rest
