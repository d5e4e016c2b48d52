use Rattle.std.proofs.Common.{arith, ◌∙◌, ◌+◌, List, Option, IfSome, IfNone, sym, subst}
use Rattle.wh_path.specs.Paths.{at, cell_at}
use Rattle.wh_grid.specs.declared.cell.Cell.{Cell}
use Rattle.wh_field.specs.Distances.{IsRoute, IsLeastRoute}
use Rattle.wh_planners.specs.Patience.{IsPatient}
use Rattle.wh_planners.proofs.Patience.{patient_start, patient_step, end-patient, no_way}
use Rattle.wh_planners.proofs.patient.tour.Goals as goal

pub loop-i-init : goal.loop-i-init
loop-i-init c =
    patient_start c.args.grid.now c.args.avoid.now c.args.own.now c.args.wait c.args.stops.now c.in_ok-path.path c.requires.walk c.requires.off
    (c.in_ok-path.ensures.size, λ k h. c.in_ok-path.ensures.goes k (omega arith))

pub returns-in-None-clause-none : goal.returns-in-None-clause-none
returns-in-None-clause-none c =
    let l = c.loop-i in
    let g = c.args.grid.now in
    let avoid = c.args.avoid.now in
    let to = cell_at c.args.stops.now l.i in
    let at_end = c.end.ensures ∙ end-patient g avoid c.args.own.now c.args.wait c.args.stops.now l.i l.path l.invariant in
    let O : Option (List Cell) → Type 0 = λ r. IfNone r ((q : List Cell) → IsRoute g c.end.result to avoid q → ⊥) in
    let none : (q : List Cell) → IsRoute g c.end.result to avoid q → ⊥ = subst O c.in-None.is c.in_ok-leg.ensures.none in
    no_way g avoid (at c.args.own.now c.args.wait) c.args.stops.now l.i c.loop-i-test.true (subst (λ from. (q : List Cell) → IsRoute g from to avoid q → ⊥) at_end none)

pub loop-i-preserved : goal.loop-i-preserved
loop-i-preserved c =
    let l = c.loop-i in
    let g = c.args.grid.now in
    let avoid = c.args.avoid.now in
    let to = cell_at c.args.stops.now l.i in
    let P : List Cell → Type 0 = λ p. IsPatient g avoid c.args.own.now c.args.wait c.args.stops.now (l.i + 1) p in
    let O : Option (List Cell) → Type 0 = λ r. IfSome r (λ walk. IsLeastRoute g c.end.result to avoid walk) in
    let found : IsLeastRoute g c.end.result to avoid c.in-Some.leg = subst O c.in-Some.is c.in_ok-leg.ensures.found in
    let least = subst (λ from. IsLeastRoute g from to avoid c.in-Some.leg) c.end.ensures found in
    subst P (sym c.in_ok-follow-in-Some.ensures.ok) (patient_step g avoid c.args.own.now c.args.wait c.args.stops.now l.i l.path c.in-Some.leg l.invariant least)
