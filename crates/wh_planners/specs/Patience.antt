-- the path of the patient planner, and what the planner is
use Rattle.std.specs.Prelude.{◌≡◌, ℕ, ◌+◌, ◌<◌, ◌≤◌, List, [], ◌∷◌, length, Contains}
use Prim.Native.Nat.{zero, suc}
use Rattle.wh_grid.specs.declared.cell.Cell.{Cell}
use Rattle.wh_grid.specs.Grids.{Floor}
use Rattle.wh_path.specs.Paths.{at, cell_at, last_index, path_of, others, ends, horizon, IsWalk}
use Rattle.wh_field.specs.Distances.{IsLeastRoute, IsNearestRoute}
use Rattle.wh_claims.specs.declared.claim.Claim.{Claim}
use Rattle.wh_planner.specs.declared.duty.Duty.{Duty}
use Rattle.wh_planner.specs.declared.duty.Duty.TheVariants.{Deliver, Park}

-- where the own path is when the others rest
abbrev pub met : List (List Cell) → ℕ → Cell
met paths agent = at (path_of paths agent) (horizon (others paths agent))

-- From one time to another the path goes along a shortest route from one cell to another that meets none of these cells.
pub record IsLeg (g : Floor) (avoid : List Cell) (from to : Cell) (start finish : ℕ) (path : List Cell) : Type 0 where
  pub walk : List Cell
  pub least : IsLeastRoute g from to avoid walk
  pub along : (k : ℕ) → k ≤ last_index walk → at path (start + k) ≡ at walk k
  pub takes : finish ≡ start + last_index walk

-- the cell from which it goes to a stop: the stop before, or where it waits
abbrev pub cell_before : Cell → List Cell → ℕ → Cell
cell_before here stops zero = here
cell_before here stops (suc i) = cell_at stops i

-- The path goes the own way until a time. Then it goes to the first n of these stops, leg by leg, and rests.
pub record IsPatient (g : Floor) (avoid own : List Cell) (wait : ℕ) (stops : List Cell) (n : ℕ) (path : List Cell) : Type 0 where
  pub walk : IsWalk g path
  pub clear : (k : ℕ) → wait ≤ k → ¬ Contains avoid (at path k)
  pub goes_on : (k : ℕ) → k ≤ wait → at path k ≡ at own k
  pub when : ℕ → ℕ
  pub sets_out : when 0 ≡ wait
  pub leg : (i : ℕ) → i < n → IsLeg g avoid (cell_before (at own wait) stops i) (cell_at stops i) (when i) (when (i + 1)) path
  pub rests : (i : ℕ) → n ≤ i → when i ≡ last_index path

-- Until the others rest it goes its own way, and then to the stops around the others' ends.
abbrev pub GoesPatiently : Floor → List (List Cell) → ℕ → List Cell → List Cell → Type 0
GoesPatiently g paths agent stops path =
    IsPatient g (ends (others paths agent)) (path_of paths agent) (horizon (others paths agent)) stops (length stops) path

-- The same to the nearest of these cells, the first of them where several are as near.
pub record ParksPatiently (g : Floor) (paths : List (List Cell)) (agent : ℕ) (allowed path : List Cell) : Type 0 where
  pub index : ℕ
  pub walk : List Cell
  pub nearest : IsNearestRoute g (met paths agent) allowed (ends (others paths agent)) index walk
  pub goes : GoesPatiently g paths agent (cell_at allowed index ∷ []) path

-- What the patient planner returns: to deliver, through the stops; to park, to the nearest of the allowed cells.
abbrev pub IsPatientPath : Floor → List (List Cell) → ℕ → Duty → List Cell → Type 0
IsPatientPath g paths agent (Deliver stops) path = GoesPatiently g paths agent stops.now path
IsPatientPath g paths agent (Park allowed) path = ParksPatiently g paths agent allowed.now path

-- what a patient planner is: the grid on which it plans, and the claim that has its slots
pub record Mind : Type 0 where
  pub grid : Floor
  pub claim : Claim
