-- an errand for a task, and by which sights
use Rattle.std.specs.Prelude.{◌≡◌, ℕ, ◌-◌, ◌<◌, ⊤, List, Option, Some, None, length, take, drop, slice_index_or}
use Rattle.wh_grid.specs.declared.cell.Cell.{Cell}
use Rattle.wh_grid.specs.Grids.{Floor, IsPassable}
use Rattle.wh_path.specs.Paths.{cell_at}
use Rattle.wh_field.specs.declared.sight.Sight.{Sight}
use Rattle.wh_resv.specs.Others.{Others}
use Rattle.wh_search.specs.declared.errand.Errand.{Errand}

-- it is from this cell through these stops to one of these ends, on this grid beside these others
pub record IsErrandOf (g : Floor) (others : Others) (loc : Cell) (via ends : List Cell) (e : Errand) : Type 0 where
  pub grid_is : e.grid.now ≡ g
  pub others_are : e.others.now ≡ others
  pub from : e.loc ≡ loc
  pub through : e.via.now ≡ via
  pub to : e.ends.now ≡ ends

-- it is for a task of these stops
abbrev pub IsTaskOf : Floor → Others → Cell → List Cell → Errand → Type 0
IsTaskOf g others loc stops e = IsErrandOf g others loc (take (length stops - 1) stops) (drop (length stops - 1) stops) e

-- a sight of the stop's field over a grid on which all may be walked on that may be here
pub record IsSightBeyond (g : Floor) (sight : Sight) (stop : Cell) : Type 0 where
  pub more : (c : Cell) → IsPassable g c → IsPassable sight.field.now.grid c
  pub source : sight.field.now.cell ≡ stop

abbrev pub IsSightOver : Floor → Option Sight → Cell → Type 0
IsSightOver g None stop = ⊤
IsSightOver g (Some sight) stop = IsSightBeyond g sight stop

-- there is a place for each stop, and each sight that is there is such a one
pub record AreSightsOver (g : Floor) (stops : List Cell) (sights : List (Option Sight)) : Type 0 where
  pub size : length sights ≡ length stops
  pub each : (l : ℕ) → l < length stops → IsSightOver g (slice_index_or sights l None) (cell_at stops l)
