-- numbers for the cells that open cells link
use Rattle.std.specs.Prelude.{◌≡◌, ℕ, ◌*◌, ◌/◌, ◌%◌, ◌<◌, ◌⊎◌, List, Bool, length, slice_index_or}
use Rattle.wh_grid.specs.declared.cell.Cell.{Cell}
use Rattle.wh_grid.specs.Grids.{Floor, IsPassable, IsMove}
use Rattle.wh_formed.specs.Fills.{IsMarked, IsReached, place}

-- a list, row by row, marks passable cells alone
pub record MarksPassable (g : Floor) (open_cells : List Bool) : Type 0 where
  pub size : length open_cells ≡ g.width * g.height
  pub inside : (c : Cell) → IsMarked g open_cells c → IsPassable g c

-- a cell within the sides has this number in a list that has a grid row by row
pub record HasNumber (g : Floor) (numbers : List ℕ) (c : Cell) (k : ℕ) : Type 0 where
  pub in_width : c.x < g.width
  pub in_height : c.y < g.height
  pub number : slice_index_or numbers (place g c) 0 ≡ k

-- a cell within the sides has a number other than 0
abbrev pub IsNumbered : Floor → List ℕ → Cell → Type 0
IsNumbered g numbers c = (k : ℕ) × (0 < k) × HasNumber g numbers c k

-- of the cells with P some are numbered: each with all that can be reached from it through cells with P, and with no others
pub record AreParts (g : Floor) (P : Cell → Type 0) (numbers : List ℕ) : Type 0 where
  pub size : length numbers ≡ g.width * g.height
  pub only : (c : Cell) (k : ℕ) → 0 < k → HasNumber g numbers c k → P c
  pub linked : (c d : Cell) (k : ℕ) → 0 < k → HasNumber g numbers c k → HasNumber g numbers d k → IsReached g P c d
  pub closed : (c d : Cell) (k : ℕ) → 0 < k → HasNumber g numbers c k → IsReached g P c d → HasNumber g numbers d k

-- the cells with P of which Q holds too are among those that are numbered so
pub record AreLabelsWhere (g : Floor) (P : Cell → Type 0) (Q : Cell → Type 0) (numbers : List ℕ) : Type 0 where
  pub parts : AreParts g P numbers
  pub every : (c : Cell) → P c → Q c → IsNumbered g numbers c

-- all cells with P before the place i are
abbrev pub AreLabelsBelow : Floor → (Cell → Type 0) → ℕ → List ℕ → Type 0
AreLabelsBelow g P i numbers = AreLabelsWhere g P (λ c. place g c < i) numbers

-- all cells with P one step from a are
abbrev pub AreLabelsBeside : Floor → (Cell → Type 0) → Cell → List ℕ → Type 0
AreLabelsBeside g P a numbers = AreLabelsWhere g P (IsMove a) numbers

-- all cells with P are
abbrev pub AreLabels : Floor → (Cell → Type 0) → List ℕ → Type 0
AreLabels g P numbers = AreLabelsBelow g P (g.width * g.height) numbers

-- what is numbered stays so, and the cells with P of which Q holds too are numbered as well
pub record NumbersMore (g : Floor) (P : Cell → Type 0) (Q : Cell → Type 0) (older newer : List ℕ) : Type 0 where
  pub parts : AreParts g P newer
  pub kept : (c : Cell) → IsNumbered g older c → IsNumbered g newer c
  pub every : (c : Cell) → P c → Q c → IsNumbered g newer c

-- the cell of a place in a list that has a grid row by row
abbrev pub cell_at : Floor → ℕ → Cell
cell_at g i = record { x = i % g.width; y = i / g.width }

-- one step from a cell there is a cell with this number
abbrev pub IsBesideNumber : Floor → List ℕ → Cell → ℕ → Type 0
IsBesideNumber g numbers a k = (c : Cell) × IsMove a c × HasNumber g numbers c k

-- one step from each of the two there is a cell with one and the same number
abbrev pub ShareNumber : Floor → List ℕ → Cell → Cell → Type 0
ShareNumber g numbers a b = (k : ℕ) × (0 < k) × IsBesideNumber g numbers a k × IsBesideNumber g numbers b k

-- two cells are one step apart, or have a number in common
pub record AreLinked (g : Floor) (numbers : List ℕ) (a b : Cell) : Type 0 where
  pub from : IsPassable g a
  pub to : IsPassable g b
  pub link : IsMove a b ⊎ ShareNumber g numbers a b
