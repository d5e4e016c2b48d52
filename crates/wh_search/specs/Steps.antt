-- one step beside the others, and marks
use Rattle.std.specs.Prelude.{◌≡◌, ℕ, ◌+◌, List, Bool, true, false, slice_index_or, [], ◌∷◌, cond}
use Rattle.wh_grid.specs.declared.cell.Cell.{Cell}
use Rattle.wh_grid.specs.Grids.{Floor, IsPassable, IsMove}
use Rattle.wh_resv.specs.Others.{Others, MayStep}

-- between k and k + 1 an agent may go from r to c
pub record Go (g : Floor) (others : Others) (k : ℕ) (r c : Cell) : Type 0 where
  pub passable : IsPassable g c
  pub move : IsMove r c
  pub may : MayStep others r c k

-- how many are marked
abbrev pub marked_count : List Bool → ℕ
marked_count [] = 0
marked_count (b ∷ marks) = cond b (1 + marked_count marks) (marked_count marks)

-- each mark of newer is one of older
abbrev pub AddsNone : List Bool → List Bool → Type 0
AddsNone older newer = (i : ℕ) → slice_index_or newer i false ≡ true → slice_index_or older i false ≡ true
