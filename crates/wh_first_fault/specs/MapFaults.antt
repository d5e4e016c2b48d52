-- The first fault of a map: the first line with which no map begins, and what is wrong with it.
use Rattle.std.specs.Prelude.{◌≡◌, ◌≢◌, ℕ, ◌+◌, ◌<◌, ◌⊎◌, true, false, List, [], ◌∷◌, ◌++◌, length, take, codes}
use Rattle.std.specs.List.{list_all, AllByRecursion}
use Rattle.wh_text.specs.Words.{words_of}
use Rattle.wh_text.specs.Numbers.{are_digits, decimal}
use Rattle.wh_grid.specs.Grids.{Floor}
use Rattle.wh_grid.specs.MapLines.{is_letter}
use Rattle.wh_grid.specs.Grammar.{IsSide, IsRow, IsBlank, IsMap}
use Rattle.wh_grid.specs.declared.fault.Fault.{Fault}
use Rattle.wh_grid.specs.declared.fault.MapKind.{MapKind}
use Rattle.wh_grid.specs.declared.fault.MapKind.TheVariants.{Head, Size, RowLength, Letter, RowsMissing, TextAfter, TooLarge}

-- some map begins with these lines
pub record Begins (lines : List (List ℕ)) : Type 0 where
  pub more : List (List ℕ)
  pub floor : Floor
  pub is_map : IsMap (lines ++ more) floor

-- The lines end here and are no map, or no map begins with these lines and the next one.
abbrev pub IsWrong : List (List ℕ) → List (List ℕ) → Type 0
IsWrong before [] = (floor : Floor) → IsMap before floor → ⊥
IsWrong before (line ∷ rest) = Begins (before ++ line ∷ []) → ⊥

-- a line of two words, a side's name and a number in digits, of any size
pub record TellsSide (name : List ℕ) (n : ℕ) (line : List ℕ) : Type 0 where
  pub digits : List ℕ
  pub words : words_of line ≡ name ∷ digits ∷ []
  pub are_digits : are_digits digits ≡ true
  pub value : decimal digits ≡ n

-- Behind these lines that side is to be told: either in the second line, and in the third the other one.
abbrev pub WantsSide : List (List ℕ) → List ℕ → Type 0
WantsSide (start ∷ []) name = (name ≡ codes "height") ⊎ (name ≡ codes "width")
WantsSide (start ∷ second ∷ []) name =
    ((n : ℕ) × IsSide (codes "height") n second × (name ≡ codes "width")) ⊎ ((n : ℕ) × IsSide (codes "width") n second × (name ≡ codes "height"))
WantsSide lines name = ⊥

-- the first four lines of a map with these sides
pub record IsHead (width height : ℕ) (start second third fourth : List ℕ) : Type 0 where
  pub kind : List ℕ
  pub is_type : words_of start ≡ codes "type" ∷ kind ∷ []
  pub sides : (IsSide (codes "height") height second × IsSide (codes "width") width third) ⊎ (IsSide (codes "width") width second × IsSide (codes "height") height third)
  pub is_map : words_of fourth ≡ codes "map" ∷ []

-- behind these lines a row is to stand: they are a head and some of its rows
pub record WantsRow (width : ℕ) (lines : List (List ℕ)) : Type 0 where
  pub start : List ℕ
  pub second : List ℕ
  pub third : List ℕ
  pub fourth : List ℕ
  pub rows : List (List ℕ)
  pub height : ℕ
  pub parts : lines ≡ start ∷ second ∷ third ∷ fourth ∷ rows
  pub head : IsHead width height start second third fourth
  pub are_rows : AllByRecursion (IsRow width) rows
  pub fewer : length rows < height

-- the line tells no side that is to be told
abbrev pub TellsNoSide : List (List ℕ) → List (List ℕ) → Type 0
TellsNoSide before [] = Unit {0}
TellsNoSide before (line ∷ rest) = (name : List ℕ) (n : ℕ) → WantsSide before name → TellsSide name n line → ⊥

-- What is wrong, of each kind, where some map begins with the lines before and none goes on so: one of the first four lines
-- is missing or of another form; a side of 0; a row of letters that is too short or too long; a byte at a column that is no
-- letter; a row missing; a line behind a whole map that is not blank; a side above 4096.
abbrev pub IsFault : MapKind → List (List ℕ) → List (List ℕ) → Type 0
IsFault Head before rest = (length before < 4) × TellsNoSide before rest
IsFault Size before (line ∷ rest) = (name : List ℕ) × WantsSide before name × TellsSide name 0 line
IsFault RowLength before (line ∷ rest) = (width : ℕ) × WantsRow width before × (list_all is_letter (take width line) ≡ true) × (length line ≢ width)
IsFault Letter before (line ∷ rest) = (width : ℕ) × WantsRow width before × (list_all is_letter (take width line) ≡ false)
IsFault RowsMissing before [] = (width : ℕ) × WantsRow width before
IsFault TextAfter before (line ∷ rest) = (floor : Floor) × IsMap before floor × (IsBlank line → ⊥)
IsFault TooLarge before (line ∷ rest) = (name : List ℕ) × (n : ℕ) × WantsSide before name × TellsSide name n line × (4096 < n)
IsFault kind before rest = ⊥

-- Some map begins with the lines before the fault's, none goes on with it, and it is wrong in the way that is told.
pub record IsFirstFault (lines : List (List ℕ)) (fault : Fault) : Type 0 where
  pub before : List (List ℕ)
  pub rest : List (List ℕ)
  pub parts : lines ≡ before ++ rest
  pub place : fault.line ≡ length before + 1
  pub begins : Begins before
  pub wrong : IsWrong before rest
  pub kind : IsFault fault.kind before rest
