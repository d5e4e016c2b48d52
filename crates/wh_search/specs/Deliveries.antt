-- what a path that delivers is, and a shortest one
use Rattle.std.specs.Prelude.{Result, Ok, Err, ⊤, ◌≡◌, ℕ, ◌+◌, ◌-◌, ◌*◌, ◌≤◌, List, length, All}
use Rattle.wh_grid.specs.declared.cell.Cell.{Cell}
use Rattle.wh_grid.specs.Grids.{Floor, passable_cells}
use Rattle.wh_resv.specs.Others.{Others}
use Rattle.wh_path.specs.Paths.{horizon, at, end, last_index, IsWalk, IsFree, cell_at, VisitsInOrder}
use Rattle.wh_search.specs.declared.fault.Fault.{Fault}
use Rattle.wh_search.specs.declared.fault.Fault.TheVariants.{NoPath, NoMemory, Effort}

-- a path that delivers, however long: a walk from loc that is at the stops in order and ends at the last one, free of all others for ever
pub record IsDelivery (g : Floor) (others : Others) (loc : Cell) (stops : List Cell) (p : List Cell) : Type 0 where
  pub starts : at p 0 ≡ loc
  pub walk : IsWalk g p
  pub free : All (λ q. IsFree others.nofollow p q) others.paths
  pub visits : VisitsInOrder p stops
  pub delivers : end p ≡ cell_at stops (length stops - 1)

-- the greatest last index of a lawful path
abbrev pub longest : Floor → Others → List Cell → ℕ
longest g others stops = horizon others.paths + length stops * passable_cells g

-- a path that an agent may adopt to deliver
pub record IsLawful (g : Floor) (others : Others) (loc : Cell) (stops : List Cell) (p : List Cell) : Type 0 where
  pub is_delivery : IsDelivery g others loc stops p
  pub bounded : last_index p ≤ longest g others stops

-- a lawful path such that no delivery is shorter
pub record IsLeast (g : Floor) (others : Others) (loc : Cell) (stops : List Cell) (p : List Cell) : Type 0 where
  pub lawful : IsLawful g others loc stops p
  pub least : (q : List Cell) → IsDelivery g others loc stops q → last_index p ≤ last_index q

-- two to nine stops: eight, and home
abbrev pub AreStops : List Cell → Type 0
AreStops stops = (2 ≤ length stops) × (length stops ≤ 9)

-- the fact for the result that there is no path
abbrev pub IfNoPath : {T : Type 0} → Result T Fault → Type 0 → Type 0
IfNoPath (Ok p) P = ⊤
IfNoPath (Err NoPath) P = P
IfNoPath (Err NoMemory) P = ⊤
IfNoPath (Err Effort) P = ⊤
