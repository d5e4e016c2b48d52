-- as many paths, loads and slots as agents
use Rattle.std.proofs.Common.{◌∙◌, [], ◌∷◌, length, sym, subst, ap}
use Rattle.std.proofs.lemmas.List.{length-map, length-set}
use Rattle.wh_grid.specs.declared.cell.Cell.{Cell}
use Rattle.wh_points.specs.Points.{Site, starts, point_at}
use Rattle.wh_tasks.specs.declared.task.Load.{Load}
use Rattle.wh_core.specs.States.{State}
use Rattle.wh_core.specs.Laws.{IsOpening, HasSeats}
use Rattle.wh_core.proofs.StepKinds.{Moves, stays, adds, takes, continues, parks, ticks}

pub seats-moves : (site : Site) (old new : State) → HasSeats site old → Moves site old new → HasSeats site new
seats-moves site old new has m = elim m [
  | stays c p l t z ↦ record {
    paths = ap (λ ps. length ps) p ∙ has.paths;
    loads = ap (λ ls. length ls) l ∙ has.loads;
    slots = z ∙ has.slots;
  }
  | adds client names cells room count few stations e ↦
      subst (λ s. HasSeats site s) (sym e) (record { paths = has.paths; loads = has.loads; slots = has.slots })
  | takes agent n task path due none next lawful e ↦ subst (λ s. HasSeats site s) (sym e) (record {
    paths = length-set _ _ _ ∙ has.paths;
    loads = length-map _ _ ∙ length-set _ _ _ ∙ has.loads;
    slots = has.slots;
  })
  | continues agent n task path due own lawful e ↦ subst (λ s. HasSeats site s) (sym e) (record {
    paths = length-set _ _ _ ∙ has.paths;
    loads = length-map _ _ ∙ has.loads;
    slots = has.slots;
  })
  | parks agent path due way lawful e ↦
      subst (λ s. HasSeats site s) (sym e) (record { paths = length-set _ _ _ ∙ has.paths; loads = has.loads; slots = has.slots })
  | ticks fits e ↦ subst (λ s. HasSeats site s) (sym e) (record {
    paths = length-map _ _ ∙ has.paths;
    loads = length-map _ _ ∙ has.loads;
    slots = has.slots;
  })
]

pub seats-opening : (site : Site) (s : State) → IsOpening site s → HasSeats site s
seats-opening site s o =
    let cells = length-map site.layout.agents (λ n. (point_at site.layout.points n).cell) in
    subst (λ t. HasSeats site t) (sym o.is_opened) (record {
      paths = length-map (starts site.layout) (λ (c : Cell). c ∷ []) ∙ cells;
      loads = length-map (starts site.layout) (λ (c : Cell). Load.None) ∙ cells;
      slots = o.seats;
    })
