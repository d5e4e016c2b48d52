-- nobody can be at a cell that is taken, so the same paths deliver on the grid without such cells
use Rattle.std.proofs.Common.{ℕ, List, length, All, Result, Ok, Err, sym, subst, arith}
use Rattle.std.proofs.lemmas.Nat.{mul-le}
use Rattle.wh_grid.specs.declared.cell.Cell.{Cell}
use Rattle.wh_grid.specs.Grids.{Floor, passable_cells}
use Rattle.wh_resv.specs.Others.{Others}
use Rattle.wh_path.specs.Paths.{at, IsFree}
use Rattle.wh_search.specs.Deliveries.{IsDelivery, IsLawful, IfNoPath}
use Rattle.wh_search.specs.declared.errand.Errand.{Errand}
use Rattle.wh_search.specs.declared.fault.Fault.{Fault}
use Rattle.wh_search.specs.declared.fault.Fault.TheVariants.{NoPath, NoMemory, Effort}
use Rattle.wh_intervals.specs.Tasks.{IsTaskOf}
use Rattle.wh_detours.specs.Taken.{IsTaken, IsWithoutTaken}
use Rattle.wh_detours.specs.Laws.{SameDeliveries, AllLeastThere}

never_taken : (others : Others) (p : List Cell) (k : ℕ) → All (λ q. IsFree others.nofollow p q) others.paths → IsTaken others (at p k) → ⊥
never_taken others p k free taken = taken k (λ i q b e. (free i q b).apart k (sym e))

pub delivers_there : (g without : Floor) (others : Others) (paths : List (List Cell)) (loc : Cell) (stops p : List Cell) → IsWithoutTaken g others paths without → IsDelivery g others loc stops p → IsDelivery without others loc stops p
delivers_there g without others paths loc stops p w d =
    record {
      starts = d.starts;
      walk = record {
        non_empty = d.walk.non_empty;
        passable = λ k. (w.each (at p k)).1 (record { passable = d.walk.passable k; free = λ t s. never_taken others p k d.free t });
        moves = d.walk.moves;
      };
      free = d.free;
      visits = d.visits;
      delivers = d.delivers;
    }

pub delivers_here : (g without : Floor) (others : Others) (paths : List (List Cell)) (loc : Cell) (stops p : List Cell) → IsWithoutTaken g others paths without → IsDelivery without others loc stops p → IsDelivery g others loc stops p
delivers_here g without others paths loc stops p w d =
    record {
      starts = d.starts;
      walk = record {
        non_empty = d.walk.non_empty;
        passable = λ k. ((w.each (at p k)).0 (d.walk.passable k)).passable;
        moves = d.walk.moves;
      };
      free = d.free;
      visits = d.visits;
      delivers = d.delivers;
    }

pub same_deliveries : SameDeliveries
same_deliveries g without others paths loc stops p w = (delivers_there g without others paths loc stops p w, delivers_here g without others paths loc stops p w)

pub lawful_here : (g without : Floor) (others : Others) (paths : List (List Cell)) (loc : Cell) (stops p : List Cell) → IsWithoutTaken g others paths without → IsLawful without others loc stops p → IsLawful g others loc stops p
lawful_here g without others paths loc stops p w l =
    record {
      is_delivery = delivers_here g without others paths loc stops p w l.is_delivery;
      bounded = omega (arith, l.bounded, mul-le (length stops) (passable_cells without) (length stops) (passable_cells g) (omega arith) w.no_more);
    }

pub all_least_there : AllLeastThere
all_least_there g without others paths loc stops p w l =
    record {
      lawful = lawful_here g without others paths loc stops p w l.lawful;
      least = λ q d. l.least q (delivers_there g without others paths loc stops q w d);
    }

pub no_path_weaker : {T : Type 0} (r : Result T Fault) (P Q : Type 0) → (P → Q) → IfNoPath r P → IfNoPath r Q
no_path_weaker (Ok x) P Q f h = h
no_path_weaker (Err NoPath) P Q f h = f h
no_path_weaker (Err NoMemory) P Q f h = h
no_path_weaker (Err Effort) P Q f h = h

-- what delivers for a task does so for its errand
pub delivers_errand : (g : Floor) (others : Others) (loc : Cell) (stops p : List Cell) (e : Errand) → IsTaskOf g others loc stops e → IsDelivery g others loc stops p → IsDelivery e.grid.now e.others.now e.loc stops p
delivers_errand g others loc stops p e t d =
    subst (λ (x : Floor). IsDelivery x e.others.now e.loc stops p) (sym t.grid_is)
    (subst (λ (y : Others). IsDelivery g y e.loc stops p) (sym t.others_are)
    (subst (λ (z : Cell). IsDelivery g others z stops p) (sym t.from) d))
