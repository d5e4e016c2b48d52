-- The grammar of points files: what each line may add, said without an order of tests.
use Rattle.std.specs.Prelude.{◌≡◌, ◌≢◌, ℕ, ◌<◌, ◌≤◌, ◌⊎◌, true, false, List, [], ◌∷◌, length, Some, All, codes}
use Rattle.wh_text.specs.Words.{begins_comment, words_of}
use Rattle.wh_text.specs.Numbers.{small_number_of}
use Rattle.wh_text.specs.Names.{is_name}
use Rattle.wh_grid.specs.Grids.{Floor, IsPassable}
use Rattle.wh_points.specs.declared.points.Kind.{Kind}
use Rattle.wh_points.specs.declared.points.Kind.TheVariants.{Station, Parking}
use Rattle.wh_points.specs.declared.points.Point.{Point}
use Rattle.wh_points.specs.Points.{Layout}
use Rattle.wh_points.specs.Layouts.{find_name}
use Rattle.wh_points.specs.PointLines.{with_point, with_agent, with_rule}
use Rattle.wh_points.specs.PointFiles.{empty}

-- no words, or a first word that begins with '#'
abbrev pub IsSkipped : List (List ℕ) → Type 0
IsSkipped [] = Unit {0}
IsSkipped (name ∷ rest) = begins_comment name ≡ true

abbrev pub word_of : Kind → List ℕ
word_of Station = codes "station"
word_of Parking = codes "parking"

-- a point with a new name, at a passable cell where no point stands
pub record AddsPoint (g : Floor) (before : Layout) (words : List (List ℕ)) (after : Layout) : Type 0 where
  pub point : Point
  pub x : List ℕ
  pub y : List ℕ
  pub spelled : words ≡ word_of point.kind ∷ point.name ∷ x ∷ y ∷ []
  pub column : small_number_of x ≡ Some point.cell.x
  pub row : small_number_of y ≡ Some point.cell.y
  pub is_name : is_name point.name ≡ true
  pub new_name : All (λ other. other.name ≢ point.name) before.points
  pub passable : IsPassable g point.cell
  pub new_cell : All (λ other. other.cell ≢ point.cell) before.points
  pub room : length before.points < 4096
  pub adds : after ≡ with_point before point

-- an agent at a point that stands, where no agent starts
pub record AddsAgent (before : Layout) (words : List (List ℕ)) (after : Layout) : Type 0 where
  pub name : List ℕ
  pub number : ℕ
  pub spelled : words ≡ codes "agent" ∷ name ∷ []
  pub is_name : is_name name ≡ true
  pub found : find_name name before.points ≡ Some number
  pub new : All (λ other. other ≢ number) before.agents
  pub room : length before.agents < 256
  pub adds : after ≡ with_agent before number

-- the rule, once
pub record AddsRule (before : Layout) (words : List (List ℕ)) (after : Layout) : Type 0 where
  pub spelled : words ≡ codes "rule" ∷ codes "nofollow" ∷ []
  pub new : before.nofollow ≡ false
  pub adds : after ≡ with_rule before

-- what one line makes of a layout: a line that says something has at most 256 bytes
abbrev pub Says : Floor → Layout → List ℕ → Layout → Type 0
Says g before line after =
    (IsSkipped (words_of line) × (after ≡ before)) ⊎ ((length line ≤ 256) × (AddsPoint g before (words_of line) after ⊎ AddsAgent before (words_of line) after ⊎ AddsRule before (words_of line) after))

-- the lines one after the other
abbrev pub Spells : Floor → Layout → List (List ℕ) → Layout → Type 0
Spells g before [] after = before ≡ after
Spells g before (line ∷ lines) after = (next : Layout) × Says g before line next × Spells g next lines after

-- lines that spell a layout with an agent
abbrev pub IsPointsFile : Floor → List (List ℕ) → Layout → Type 0
IsPointsFile g lines layout = Spells g empty lines layout × (0 < length layout.agents)
