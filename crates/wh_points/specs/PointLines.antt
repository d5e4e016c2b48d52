-- What each line of a points file adds to the layout that the lines before it gave.
use Rattle.std.specs.Prelude.{ℕ, ◌+◌, ◌*◌, Bool, true, false, List, [], ◌∷◌, ◌++◌, length, Option, Some, None, Result, Ok, Err, ◌&&◌, ◌==◌, nat_lt, cond, codes, slice_index_or}
use Rattle.std.specs.List.{list_any}
use Rattle.std.specs.Str.{bytes_eq}
use Rattle.wh_text.specs.Words.{begins_comment, words_of}
use Rattle.wh_text.specs.Numbers.{small_number_of}
use Rattle.wh_text.specs.Names.{is_name}
use Rattle.wh_grid.specs.Grids.{Floor}
use Rattle.wh_points.specs.declared.points.Kind.{Kind}
use Rattle.wh_points.specs.declared.points.Kind.TheVariants.{Station, Parking}
use Rattle.wh_points.specs.declared.points.Point.{Point}
use Rattle.wh_points.specs.declared.fault.FaultKind.{FaultKind}
use Rattle.wh_points.specs.declared.fault.FaultKind.TheVariants.{Form, Name, NameTwice, Blocked, CellTwice, TooMany, Unknown, StartTwice, RuleTwice}
use Rattle.wh_points.specs.Points.{Layout}
use Rattle.wh_points.specs.Layouts.{find_name}

-- whether the place lies within the sides, and may be walked on
abbrev pub is_open : Floor → ℕ → ℕ → Bool
is_open g x y = nat_lt x g.width && nat_lt y g.height && slice_index_or g.walkable (y * g.width + x) false

abbrev pub has_name : List ℕ → List Point → Bool
has_name name points = list_any (λ point. bytes_eq name point.name) points

abbrev pub has_cell : ℕ → ℕ → List Point → Bool
has_cell x y points = list_any (λ point. (x == point.cell.x) && (y == point.cell.y)) points

-- one more point, one more agent, or the rule
abbrev pub with_point : Layout → Point → Layout
with_point layout point = record { points = layout.points ++ point ∷ []; agents = layout.agents; nofollow = layout.nofollow }

abbrev pub with_agent : Layout → ℕ → Layout
with_agent layout n = record { points = layout.points; agents = layout.agents ++ n ∷ []; nofollow = layout.nofollow }

abbrev pub with_rule : Layout → Layout
with_rule layout = record { points = layout.points; agents = layout.agents; nofollow = true }

-- a point: its name, then its place, then the count of points
abbrev pub placed : Floor → Layout → Kind → List ℕ → ℕ → ℕ → Result Layout FaultKind
placed g layout kind name x y =
    cond (is_name name) (cond (has_name name layout.points) (Err NameTwice) (cond (is_open g x y) (cond (has_cell x y layout.points) (Err CellTwice)
    (cond (nat_lt (length layout.points) 4096) (Ok (with_point layout (record { name = name; cell = record { x = x; y = y }; kind = kind }))) (Err TooMany)))
    (Err Blocked))) (Err Name)

abbrev pub placed_at : Floor → Layout → Kind → List ℕ → Option ℕ → Option ℕ → Result Layout FaultKind
placed_at g layout kind name (Some x) (Some y) = placed g layout kind name x y
placed_at g layout kind name _ _ = Err Form

-- a name and two numbers
abbrev pub point_by : Floor → Layout → Kind → List (List ℕ) → Result Layout FaultKind
point_by g layout kind (name ∷ x ∷ y ∷ []) = placed_at g layout kind name (small_number_of x) (small_number_of y)
point_by g layout kind _ = Err Form

abbrev pub starts_at : Layout → Option ℕ → Result Layout FaultKind
starts_at layout None = Err Unknown
starts_at layout (Some n) = cond (list_any (λ m. m == n) layout.agents) (Err StartTwice) (cond (nat_lt (length layout.agents) 256) (Ok (with_agent layout n)) (Err TooMany))

-- the name of a point
abbrev pub agent_by : Layout → List (List ℕ) → Result Layout FaultKind
agent_by layout (name ∷ []) = cond (is_name name) (starts_at layout (find_name name layout.points)) (Err Name)
agent_by layout _ = Err Form

-- 'nofollow'
abbrev pub rule_by : Layout → List (List ℕ) → Result Layout FaultKind
rule_by layout (name ∷ []) = cond (bytes_eq name (codes "nofollow")) (cond layout.nofollow (Err RuleTwice) (Ok (with_rule layout))) (Err Form)
rule_by layout _ = Err Form

-- by its first word
abbrev pub named : Floor → Layout → List ℕ → List (List ℕ) → Result Layout FaultKind
named g layout name rest =
    cond (bytes_eq name (codes "station")) (point_by g layout Station rest) (cond (bytes_eq name (codes "parking")) (point_by g layout Parking rest)
    (cond (bytes_eq name (codes "agent")) (agent_by layout rest) (cond (bytes_eq name (codes "rule")) (rule_by layout rest) (Err Form))))

-- empty lines, blanks and comments are skipped, however long; any other line of more than 256 bytes is of no form
abbrev pub line_by : Floor → Layout → Bool → List (List ℕ) → Result Layout FaultKind
line_by g layout long [] = Ok layout
line_by g layout long (name ∷ rest) = cond (begins_comment name) (Ok layout) (cond long (Err Form) (named g layout name rest))

abbrev pub line_of : Floor → Layout → List ℕ → Result Layout FaultKind
line_of g layout line = line_by g layout (nat_lt 256 (length line)) (words_of line)
