-- the cells that a fill enters
use Rattle.std.specs.Prelude.{◌≡◌, ℕ, ◌+◌, ◌*◌, ◌<◌, ◌⊎◌, ◌↔◌, List, Bool, true, false, length, Contains, slice_index_or, cond, sum_by}
use Prim.Native.Nat.{zero, suc}
use Rattle.wh_grid.specs.declared.cell.Cell.{Cell}
use Rattle.wh_grid.specs.Grids.{Floor, IsPassable, IsMove}
use Rattle.wh_formed.specs.declared.fill.Fill.{Fill}
use Rattle.wh_formed.specs.Rounds.{Marks, marks_of}

-- passable, and no point
pub record IsOpen (g : Floor) (points : List Cell) (c : Cell) : Type 0 where
  pub passable : IsPassable g c
  pub no_point : Contains points c → ⊥

-- the place of a cell in a list that has a grid row by row
abbrev pub place : Floor → Cell → ℕ
place g c = c.y * g.width + c.x

-- a list, row by row, marks this cell
pub record IsMarked (g : Floor) (marks : List Bool) (c : Cell) : Type 0 where
  pub in_width : c.x < g.width
  pub in_height : c.y < g.height
  pub marked : slice_index_or marks (place g c) false ≡ true

-- a list, row by row, marks exactly the open cells
pub record IsOpenTable (g : Floor) (points : List Cell) (open_cells : List Bool) : Type 0 where
  pub size : length open_cells ≡ g.width * g.height
  pub exact : (c : Cell) → IsMarked g open_cells c ↔ IsOpen g points c

-- a walk of n steps leads from a to c, and each step of it enters a cell with P
abbrev pub Reaches : Floor → (Cell → Type 0) → Cell → ℕ → Cell → Type 0
Reaches g P a zero c = IsPassable g a × (c ≡ a)
Reaches g P a (suc n) c = (r : Cell) × Reaches g P a n r × IsMove r c × P c

-- a walk of some length does
abbrev pub IsReached : Floor → (Cell → Type 0) → Cell → Cell → Type 0
IsReached g P a c = (n : ℕ) × Reaches g P a n c

-- how many are not marked
abbrev pub unmarked : List Bool → ℕ
unmarked marks = sum_by (λ b. cond b 0 1) marks

-- from an older fill to a newer one, cells with P were entered: all that are open, and no others
pub record Spreads (g : Floor) (open_cells : List Bool) (P : Cell → Type 0) (older newer : Fill) : Type 0 where
  pub kept : (c : Cell) → IsMarked g (marks_of older.marks) c → IsMarked g (marks_of newer.marks) c
  pub waits : (c : Cell) → Contains older.queue.items c → Contains newer.queue.items c
  pub entered : (c : Cell) → IsMarked g (marks_of newer.marks) c → IsMarked g (marks_of older.marks) c ⊎ (P c × IsMarked g open_cells c × Contains newer.queue.items c)
  pub queued : (c : Cell) → Contains newer.queue.items c → Contains older.queue.items c ⊎ IsMarked g (marks_of newer.marks) c
  pub complete : (c : Cell) → P c → IsMarked g open_cells c → IsMarked g (marks_of newer.marks) c
  pub measure : unmarked (marks_of newer.marks) + length newer.queue.items ≡ unmarked (marks_of older.marks) + length older.queue.items
  pub rounds : Marks older.marks newer.marks
