use Rattle.std.proofs.Common.{List, IfOk, IfNone, sym, subst}
use Rattle.wh_grid.specs.declared.cell.Cell.{Cell}
use Rattle.wh_planner.specs.declared.duty.Duty.{Duty}
use Rattle.wh_planner.specs.Duties.{IsLawful, HasNoClearWay}
use Rattle.wh_planner.specs.Asked.{Serves, legs}
use Rattle.wh_planners.specs.Patience.{GoesPatiently, ParksPatiently, IsPatientPath}
use Rattle.wh_planners.proofs.Answers.{some-map}
use Rattle.wh_planners.proofs.Patience.{path_lawful}
use Rattle.wh_planners.proofs.patient.patient_path.Goals as goal

pub returns-in-Deliver-clause-lawful : goal.returns-in-Deliver-clause-lawful
returns-in-Deliver-clause-lawful c =
    let s = c.args.scene.now in
    let g = s.grid.now in
    let paths = s.paths.now in
    let duty = c.args.duty in
    let A : List Cell → Type 0 = λ p. GoesPatiently g paths s.agent c.in-Deliver.stops.now p in
    let B : List Cell → Type 0 = λ p. IsLawful g s.nofollow paths s.agent (legs duty) (Serves duty) p in
    some-map A B c.deliver.result (λ p a. path_lawful g s.nofollow paths s.agent duty p c.requires.free c.requires.agent c.requires.duty (subst (λ (d : Duty). IsPatientPath g paths s.agent d p) (sym c.in-Deliver.is) a)) c.deliver.ensures.found

pub returns-in-Park-clause-lawful : goal.returns-in-Park-clause-lawful
returns-in-Park-clause-lawful c =
    let s = c.args.scene.now in
    let g = s.grid.now in
    let paths = s.paths.now in
    let duty = c.args.duty in
    let A : List Cell → Type 0 = λ p. ParksPatiently g paths s.agent c.in-Park.allowed.now p in
    let B : List Cell → Type 0 = λ p. IsLawful g s.nofollow paths s.agent (legs duty) (Serves duty) p in
    some-map A B c.park.result (λ p a. path_lawful g s.nofollow paths s.agent duty p c.requires.free c.requires.agent c.requires.duty (subst (λ (d : Duty). IsPatientPath g paths s.agent d p) (sym c.in-Park.is) a)) c.park.ensures.found

pub returns-in-Deliver-clause-none : goal.returns-in-Deliver-clause-none
returns-in-Deliver-clause-none c =
    let s = c.args.scene.now in
    subst (λ (d : Duty). IfOk c.deliver.result (λ r. IfNone r (HasNoClearWay s.grid.now s.paths.now s.agent (Serves d)))) (sym c.in-Deliver.is) c.deliver.ensures.none

pub returns-in-Park-clause-none : goal.returns-in-Park-clause-none
returns-in-Park-clause-none c =
    let s = c.args.scene.now in
    subst (λ (d : Duty). IfOk c.park.result (λ r. IfNone r (HasNoClearWay s.grid.now s.paths.now s.agent (Serves d)))) (sym c.in-Park.is) c.park.ensures.none
