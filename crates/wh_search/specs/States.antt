-- where an agent is with how many stops behind it, and the steps between such states
use Rattle.std.specs.Prelude.{◌≡◌, ◌≢◌, ℕ, ◌+◌, ◌<◌, ◌≤◌, List, [], ◌∷◌, length, Contains}
use Prim.Native.Nat.{zero, suc}
use Rattle.wh_grid.specs.declared.cell.Cell.{Cell}
use Rattle.wh_grid.specs.Grids.{Floor, IsPassable, IsMove}
use Rattle.wh_resv.specs.Others.{Others, MayRest}
use Rattle.wh_path.specs.Paths.{cell_at}
use Rattle.wh_search.specs.Steps.{Go}

-- where an agent is, and how many stops it has behind it
pub record State : Type 0 where
  pub leg : ℕ
  pub cell : Cell

-- an agent with l stops behind it comes to c, and then has m behind it: as many as c allows
pub record Arrives (via : List Cell) (l : ℕ) (c : Cell) (m : ℕ) : Type 0 where
  pub forward : l ≤ m
  pub few : m ≤ length via
  pub visited : (j : ℕ) → l ≤ j → j < m → cell_at via j ≡ c
  pub stuck : m < length via → cell_at via m ≢ c

-- between k and k + 1 an agent may get from one state to another
pub record Steps (g : Floor) (others : Others) (via : List Cell) (k : ℕ) (s t : State) : Type 0 where
  pub goes : Go g others k s.cell t.cell
  pub arrives : Arrives via s.leg t.cell t.leg

-- an agent that is there at k has all stops behind it, and may rest at one of the ends
pub record IsEnd (others : Others) (via : List Cell) (ends : List Cell) (k : ℕ) (s : State) : Type 0 where
  pub all_visited : s.leg ≡ length via
  pub delivered : Contains ends s.cell
  pub rests : MayRest others s.cell k

-- an estimate of the steps left: 0 at the ends, falling by at most 1 in a step, and not greater at a stop for an agent that has yet to visit it.
-- Nothing is required of cells that are not passable
pub record IsEstimate (g : Floor) (via : List Cell) (ends : List Cell) (estimate : ℕ → Cell → ℕ) : Type 0 where
  pub at_end : (c : Cell) → Contains ends c → IsPassable g c → estimate (length via) c ≡ 0
  pub falls : (l : ℕ) (r c : Cell) → l ≤ length via → IsPassable g r → IsPassable g c → IsMove r c → estimate l r ≤ estimate l c + 1
  pub visits : (l : ℕ) → l < length via → IsPassable g (cell_at via l) → estimate l (cell_at via l) ≤ estimate (l + 1) (cell_at via l)

-- from the state s at i these cells lead, step by step, to the state t at n
abbrev pub Leads : Floor → Others → List Cell → ℕ → State → List Cell → ℕ → State → Type 0
Leads g others via i s [] n t = (i ≡ n) × (s ≡ t)
Leads g others via i s (c ∷ cs) n t = (u : State) × (c ≡ u.cell) × Steps g others via i s u × Leads g others via (suc i) u cs n t

-- after k steps from the start
abbrev pub Reaches : {S : Type 0} → (ℕ → S → S → Type 0) → S → ℕ → S → Type 0
Reaches Step start zero t = t ≡ start
Reaches {S} Step start (suc k) t = (s : S) × Reaches Step start k s × Step k s t
