-- what was found for an errand, in the words of its task
use Rattle.std.proofs.Common.{◌≤◌, List, [], length, Option, MatchOption, subst}
use Rattle.wh_grid.specs.declared.cell.Cell.{Cell}
use Rattle.wh_grid.specs.Grids.{Floor}
use Rattle.wh_resv.specs.Others.{Others}
use Rattle.wh_search.specs.Deliveries.{IsDelivery, IsLeast}
use Rattle.wh_search.specs.Parkings.{IsParking, IsLeastParking}
use Rattle.wh_search.specs.Tours.{IsTour, IsLeastTour}
use Rattle.wh_search.specs.declared.errand.Errand.{Errand}
use Rattle.wh_search.proofs.Parks.{parking_weaker, tour_parking}
use Rattle.wh_search.proofs.Stops.{path_weaker}
use Rattle.wh_intervals.specs.Tasks.{IsErrandOf, IsTaskOf}

pub task_found : (g : Floor) (others : Others) (loc : Cell) (stops : List Cell) (e : Errand) (o : Option (List Cell)) → 2 ≤ length stops → IsTaskOf g others loc stops e
    → MatchOption o ((q : List Cell) → IsTour e.grid.now e.others.now e.loc e.via.now e.ends.now q → ⊥) (λ p. IsLeastTour e.grid.now e.others.now e.loc e.via.now e.ends.now p)
    → MatchOption o ((q : List Cell) → IsDelivery g others loc stops q → ⊥) (λ p. IsLeast g others loc stops p)
task_found g others loc stops e o many t found =
    let F : Floor → Others → Cell → Type 0 = λ x y z. MatchOption o ((q : List Cell) → IsDelivery x y z stops q → ⊥) (λ p. IsLeast x y z stops p) in
    subst (λ (x : Floor). F x others loc) t.grid_is
    (subst (λ (y : Others). F e.grid.now y loc) t.others_are
    (subst (λ (z : Cell). F e.grid.now e.others.now z) t.from
    (path_weaker e.grid.now e.others.now e.loc stops e.via.now e.ends.now o many t.through t.to found)))

pub parking_found : (g : Floor) (others : Others) (loc : Cell) (allowed : List Cell) (Known : List Cell → Type 0) (e : Errand) (o : Option (List Cell)) → IsErrandOf g others loc [] allowed e
    → MatchOption o ((q : List Cell) → IsTour e.grid.now e.others.now e.loc e.via.now e.ends.now q → Known q) (λ p. IsLeastTour e.grid.now e.others.now e.loc e.via.now e.ends.now p)
    → MatchOption o ((q : List Cell) → IsParking g others loc allowed q → Known q) (λ p. IsLeastParking g others loc allowed p)
parking_found g others loc allowed Known e o t found =
    let F : Floor → Others → Cell → List Cell → List Cell → Type 0 = λ x y z v w. MatchOption o ((q : List Cell) → IsTour x y z v w q → Known q) (λ p. IsLeastTour x y z v w p) in
    parking_weaker g others loc allowed Known o
    (subst (λ (x : Floor). F x others loc [] allowed) t.grid_is
    (subst (λ (y : Others). F e.grid.now y loc [] allowed) t.others_are
    (subst (λ (z : Cell). F e.grid.now e.others.now z [] allowed) t.from
    (subst (λ (v : List Cell). F e.grid.now e.others.now e.loc v allowed) t.through
    (subst (λ (w : List Cell). F e.grid.now e.others.now e.loc e.via.now w) t.to found)))))

pub errand_parks : (g : Floor) (others : Others) (loc : Cell) (allowed : List Cell) (e : Errand) (q : List Cell) → IsErrandOf g others loc [] allowed e
    → IsTour e.grid.now e.others.now e.loc e.via.now e.ends.now q → IsParking g others loc allowed q
errand_parks g others loc allowed e q t tour =
    tour_parking g others loc allowed q
    (subst (λ (x : Floor). IsTour x others loc [] allowed q) t.grid_is
    (subst (λ (y : Others). IsTour e.grid.now y loc [] allowed q) t.others_are
    (subst (λ (z : Cell). IsTour e.grid.now e.others.now z [] allowed q) t.from
    (subst (λ (v : List Cell). IsTour e.grid.now e.others.now e.loc v allowed q) t.through
    (subst (λ (w : List Cell). IsTour e.grid.now e.others.now e.loc e.via.now w q) t.to tour)))))
