-- that cells which are closed bar the way to a stop
use Rattle.std.specs.Prelude.{◌≡◌, ℕ, ◌+◌, ◌<◌, ◌≤◌, List, ◌∷◌, Bool, true, false, Option, Some, None, length, slice_index_or}
use Rattle.wh_grid.specs.declared.cell.Cell.{Cell}
use Rattle.wh_grid.specs.Grids.{Floor, IsPassable, IsAdjacent, IsMove}
use Rattle.wh_path.specs.Paths.{at, cell_at, last_index}
use Rattle.wh_path.specs.Walks.{IsWalkBetween, IsLeastWalk}
use Rattle.wh_field.specs.Distances.{distance}
use Rattle.wh_field.specs.Growing.{capped}
use Rattle.wh_field.specs.declared.sight.Sight.{Sight}
use Rattle.wh_resv.specs.Others.{Others}
use Rattle.wh_detours.specs.Closed.{IsClosed}

-- a walk down the field of a stop from a cell, of `whole` steps in all, is at another cell with a number of steps left, and avoided all closed cells
pub record IsOnWay (g : Floor) (others : Others) (loc from stop c : Cell) (whole left : ℕ) : Type 0 where
  pub path : List Cell
  pub walk : IsWalkBetween g from c path
  pub size : length path + left ≡ whole + 1
  pub free : (k : ℕ) → 0 < k → k ≤ last_index path → IsClosed others loc (at path k) → ⊥
  pub far : distance g stop c ≡ Some left

-- down the field of a stop from a cell, round those that are closed, it comes to where each cell that is nearer is closed
pub record IsShut (g : Floor) (others : Others) (loc from stop : Cell) : Type 0 where
  pub whole : ℕ
  pub start : distance g stop from ≡ Some whole
  pub cell : Cell
  pub left : ℕ
  pub way : IsOnWay g others loc from stop cell whole (left + 1)
  pub taken : (d : Cell) → IsAdjacent cell d → distance g stop d ≡ Some left → IsClosed others loc d

-- a shortest walk from a cell to the stop that avoids all closed cells
pub record IsClearWay (g : Floor) (others : Others) (loc from stop : Cell) (p : List Cell) : Type 0 where
  pub least : IsLeastWalk g from stop p
  pub free : (k : ℕ) → 0 < k → k ≤ last_index p → IsClosed others loc (at p k) → ⊥

-- where a walk leads from a cell to a stop, and is no longer than this, a least one is clear
abbrev pub IsClearWithin : Floor → Others → Cell → Cell → Cell → ℕ → Type 0
IsClearWithin g others loc from stop level = (n : ℕ) → distance g stop from ≡ Some n → n ≤ level → (p : List Cell) × IsClearWay g others loc from stop p

-- the cell from which it goes to a stop: the stop before, or the first one of all
abbrev pub cell_before : Cell → List Cell → ℕ → Cell
cell_before loc stops i = slice_index_or (loc ∷ stops) i loc

-- as far as a sight goes, if there is one
abbrev pub IsClearBy : Floor → Others → Cell → Cell → Cell → Option Sight → Type 0
IsClearBy g others loc from stop None = Unit {0}
IsClearBy g others loc from stop (Some s) = IsClearWithin g others loc from stop s.level

-- of the ways to the first n stops it is told which are shut and which are clear
pub record AreBarred (g : Floor) (others : Others) (loc : Cell) (stops : List Cell) (sights : List (Option Sight)) (barred : List Bool) (n : ℕ) : Type 0 where
  pub shut : (i : ℕ) → i < n → slice_index_or barred i false ≡ true → IsShut g others loc (cell_before loc stops i) (cell_at stops i)
  pub clear : (i : ℕ) → i < n → slice_index_or barred i false ≡ false → IsClearBy g others loc (cell_before loc stops i) (cell_at stops i) (slice_index_or sights i None)

-- what a sight estimates
abbrev pub sighted : Sight → Cell → ℕ
sighted s c = capped (distance s.field.now.grid s.field.now.cell c) s.level

-- a step that leads nearer by a sight, to a cell that is not closed
pub record IsNearer (others : Others) (loc : Cell) (s : Sight) (c d : Cell) : Type 0 where
  pub move : IsMove c d
  pub nearer : sighted s d < sighted s c
  pub free : IsClosed others loc d → ⊥

-- each step that leads nearer by a sight leads to a cell that is closed
abbrev pub IsStuck : Floor → Others → Cell → Sight → Cell → Type 0
IsStuck g others loc s c = (d : Cell) → IsPassable g d → IsMove c d → sighted s d < sighted s c → IsClosed others loc d
