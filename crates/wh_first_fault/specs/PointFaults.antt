-- The first fault of a points file: the lines before it spell a layout, it adds nothing to that, and what is wrong with it.
use Rattle.std.specs.Prelude.{◌≡◌, ◌≢◌, ℕ, ◌+◌, ◌<◌, ◌≤◌, ◌⊎◌, true, false, List, [], ◌∷◌, ◌++◌, length, Some, All, Contains, codes}
use Rattle.wh_text.specs.Words.{words_of}
use Rattle.wh_text.specs.Numbers.{small_number_of}
use Rattle.wh_text.specs.Names.{is_name}
use Rattle.wh_grid.specs.declared.cell.Cell.{Cell}
use Rattle.wh_grid.specs.Grids.{Floor, IsPassable}
use Rattle.wh_points.specs.declared.points.Point.{Point}
use Rattle.wh_points.specs.declared.fault.Fault.{Fault}
use Rattle.wh_points.specs.declared.fault.FaultKind.{FaultKind}
use Rattle.wh_points.specs.declared.fault.FaultKind.TheVariants.{Form, Name, NameTwice, Blocked, CellTwice, TooMany, NoAgent, Unknown, StartTwice, RuleTwice}
use Rattle.wh_points.specs.Points.{Layout, IsPoint, IsPointCell}
use Rattle.wh_points.specs.Layouts.{find_name}
use Rattle.wh_points.specs.PointFiles.{empty}
use Rattle.wh_points.specs.PointGrammar.{IsSkipped, word_of, Says, Spells}

-- the words tell a point: what it is, a word for its name, and two numbers
pub record TellsPoint (words : List (List ℕ)) (point : Point) : Type 0 where
  pub x : List ℕ
  pub y : List ℕ
  pub spelled : words ≡ word_of point.kind ∷ point.name ∷ x ∷ y ∷ []
  pub column : small_number_of x ≡ Some point.cell.x
  pub row : small_number_of y ≡ Some point.cell.y

-- the words tell an agent: a word for the name of its point
abbrev pub TellsAgent : List (List ℕ) → List ℕ → Type 0
TellsAgent words name = words ≡ codes "agent" ∷ name ∷ []

abbrev pub TellsRule : List (List ℕ) → Type 0
TellsRule words = words ≡ codes "rule" ∷ codes "nofollow" ∷ []

-- the words tell none of the three
pub record TellNothing (words : List (List ℕ)) : Type 0 where
  pub point : (point : Point) → TellsPoint words point → ⊥
  pub agent : (name : List ℕ) → TellsAgent words name → ⊥
  pub rule : TellsRule words → ⊥

-- a point whose name is one, and new
pub record NamesPoint (layout : Layout) (words : List (List ℕ)) (point : Point) : Type 0 where
  pub tells : TellsPoint words point
  pub is_name : is_name point.name ≡ true
  pub new_name : All (λ other. other.name ≢ point.name) layout.points

-- an agent at a point that stands
pub record NamesAgent (layout : Layout) (words : List (List ℕ)) (name : List ℕ) (number : ℕ) : Type 0 where
  pub tells : TellsAgent words name
  pub is_name : is_name name ≡ true
  pub found : find_name name layout.points ≡ Some number

-- a point that may stand, or an agent that may start, but for their count
abbrev pub IsOneTooMany : Floor → Layout → List (List ℕ) → Type 0
IsOneTooMany g layout words =
    ((point : Point) × NamesPoint layout words point × IsPassable g point.cell × All (λ other. other.cell ≢ point.cell) layout.points × (4096 ≤ length layout.points))
    ⊎ ((name : List ℕ) × (number : ℕ) × NamesAgent layout words name number × All (λ other. other ≢ number) layout.agents × (256 ≤ length layout.agents))

-- What is wrong with words, of each kind. Of two that are wrong in one line the one that stands first in this order is told:
-- the form, the name, a name that stands, the place, a place that is taken, the count; of an agent likewise.
abbrev pub IsWrong : Floor → Layout → FaultKind → List (List ℕ) → Type 0
IsWrong g layout Form words = TellNothing words
IsWrong g layout Name words =
    ((point : Point) × TellsPoint words point × (is_name point.name ≡ false)) ⊎ ((name : List ℕ) × TellsAgent words name × (is_name name ≡ false))
IsWrong g layout NameTwice words = (point : Point) × TellsPoint words point × (is_name point.name ≡ true) × ((cell : Cell) × IsPoint layout point.name cell)
IsWrong g layout Blocked words = (point : Point) × NamesPoint layout words point × (IsPassable g point.cell → ⊥)
IsWrong g layout CellTwice words = (point : Point) × NamesPoint layout words point × IsPassable g point.cell × IsPointCell layout point.cell
IsWrong g layout TooMany words = IsOneTooMany g layout words
IsWrong g layout Unknown words = (name : List ℕ) × TellsAgent words name × (is_name name ≡ true) × All (λ other. other.name ≢ name) layout.points
IsWrong g layout StartTwice words = (name : List ℕ) × (number : ℕ) × NamesAgent layout words name number × Contains layout.agents number
IsWrong g layout RuleTwice words = TellsRule words × (layout.nofollow ≡ true)
IsWrong g layout NoAgent words = ⊥

-- a line that says something: one of more than 256 bytes has no valid form
abbrev pub IsFault : Floor → Layout → FaultKind → List ℕ → Type 0
IsFault g layout kind line =
    (IsSkipped (words_of line) → ⊥) × (((256 < length line) × (kind ≡ Form)) ⊎ ((length line ≤ 256) × IsWrong g layout kind (words_of line)))

-- The lines end here without an agent, or the next one adds nothing.
abbrev pub Ends : Floor → Layout → FaultKind → List (List ℕ) → Type 0
Ends g layout kind [] = (kind ≡ NoAgent) × (layout.agents ≡ [])
Ends g layout kind (line ∷ rest) = ((after : Layout) → Says g layout line after → ⊥) × IsFault g layout kind line

-- The lines before the fault's spell a layout, none goes on from there with it, and it is wrong in the way that is told.
pub record IsFirstFault (g : Floor) (lines : List (List ℕ)) (fault : Fault) : Type 0 where
  pub before : List (List ℕ)
  pub rest : List (List ℕ)
  pub layout : Layout
  pub parts : lines ≡ before ++ rest
  pub place : fault.line ≡ length before + 1
  pub spells : Spells g empty before layout
  pub ends : Ends g layout fault.kind rest
