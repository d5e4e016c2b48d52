use Rattle.std.proofs.Common.{◌≡◌, ◌∙◌, ℕ, List, IfOk, IfSome, IfNone, length, ap, sym, subst, Contains}
use Rattle.wh_grid.specs.declared.cell.Cell.{Cell}
use Rattle.wh_path.specs.Paths.{at, ends, others, path_of, horizon, IsWalk}
use Rattle.wh_planner.specs.Duties.{Delivers}
use Rattle.wh_planner.specs.Laws.{IsUnderWay}
use Rattle.wh_planners.specs.Patience.{met, IsPatient}
use Rattle.wh_planners.proofs.Answers.{none-map}
use Rattle.wh_planners.proofs.Patience.{met_off, no_delivery_on}
use Rattle.wh_planners.proofs.Services.{own_is}
use Rattle.wh_planners.proofs.patient.deliver.Goals as goal

pub tour-requires-clause-walk : goal.tour-requires-clause-walk
tour-requires-clause-walk c =
    let s = c.args.scene.now in
    let own = own_is c.paths-paths.result.now s.paths.now s.agent c.index-paths-scene.result c.requires.agent c.paths-paths.ensures c.index-paths-scene.is in
    subst (λ p. IsWalk s.grid.now p) (sym own) c.requires.walk

pub tour-requires-clause-off : goal.tour-requires-clause-off
tour-requires-clause-off c =
    let s = c.args.scene.now in
    let read : c.paths-paths.result.now ≡ s.paths.now = c.paths-paths.ensures in
    let own = own_is c.paths-paths.result.now s.paths.now s.agent c.index-paths-scene.result c.requires.agent read c.index-paths-scene.is in
    let wait : c.last_to_rest-wait.result ≡ horizon (others s.paths.now s.agent) = c.last_to_rest-wait.ensures.value ∙ ap (λ (ps : List (List Cell)). horizon (others ps s.agent)) read in
    let avoid : c.deref.result.now ≡ ends (others s.paths.now s.agent) = c.deref.ensures.value ∙ c.in_ok-avoid.ensures ∙ ap (λ (ps : List (List Cell)). ends (others ps s.agent)) read in
    let under : IsUnderWay s.grid.now s.nofollow s.paths.now s.agent = record { known = c.requires.agent; walk = c.requires.walk; free = c.requires.free } in
    let there : at c.index-paths-scene.result c.last_to_rest-wait.result ≡ met s.paths.now s.agent = ap (λ p. at p c.last_to_rest-wait.result) own ∙ ap (λ k. at (path_of s.paths.now s.agent) k) wait in
    rw (there, avoid) (met_off s.grid.now s.nofollow s.paths.now s.agent under)

pub returns-clause-found : goal.returns-clause-found
returns-clause-found c =
    let s = c.args.scene.now in
    let read : c.paths-paths.result.now ≡ s.paths.now = c.paths-paths.ensures in
    let own = own_is c.paths-paths.result.now s.paths.now s.agent c.index-paths-scene.result c.requires.agent read c.index-paths-scene.is in
    let wait : c.last_to_rest-wait.result ≡ horizon (others s.paths.now s.agent) = c.last_to_rest-wait.ensures.value ∙ ap (λ (ps : List (List Cell)). horizon (others ps s.agent)) read in
    let avoid : c.deref.result.now ≡ ends (others s.paths.now s.agent) = c.deref.ensures.value ∙ c.in_ok-avoid.ensures ∙ ap (λ (ps : List (List Cell)). ends (others ps s.agent)) read in
    let P : List Cell → List Cell → ℕ → Type 0 = λ cells p k. IfOk c.tour.result (λ r. IfSome r (IsPatient s.grid.now cells p k c.args.stops.now (length c.args.stops.now))) in
    subst (λ cells. P cells (path_of s.paths.now s.agent) (horizon (others s.paths.now s.agent))) avoid
    (subst (λ p. P c.deref.result.now p (horizon (others s.paths.now s.agent))) own (subst (λ k. P c.deref.result.now c.index-paths-scene.result k) wait c.tour.ensures.found))

pub returns-clause-none : goal.returns-clause-none
returns-clause-none c =
    let s = c.args.scene.now in
    let read : c.paths-paths.result.now ≡ s.paths.now = c.paths-paths.ensures in
    let own = own_is c.paths-paths.result.now s.paths.now s.agent c.index-paths-scene.result c.requires.agent read c.index-paths-scene.is in
    let wait : c.last_to_rest-wait.result ≡ horizon (others s.paths.now s.agent) = c.last_to_rest-wait.ensures.value ∙ ap (λ (ps : List (List Cell)). horizon (others ps s.agent)) read in
    let avoid : c.deref.result.now ≡ ends (others s.paths.now s.agent) = c.deref.ensures.value ∙ c.in_ok-avoid.ensures ∙ ap (λ (ps : List (List Cell)). ends (others ps s.agent)) read in
    let there : at c.index-paths-scene.result c.last_to_rest-wait.result ≡ met s.paths.now s.agent = ap (λ p. at p c.last_to_rest-wait.result) own ∙ ap (λ k. at (path_of s.paths.now s.agent) k) wait in
    let under : IsUnderWay s.grid.now s.nofollow s.paths.now s.agent = record { known = c.requires.agent; walk = c.requires.walk; free = c.requires.free } in
    let W : Cell → List Cell → Type 0 = λ from cells. (way : List Cell) → IsWalk s.grid.now way → at way 0 ≡ from → ((k : ℕ) → ¬ Contains cells (at way k)) → ¬ Delivers c.args.stops.now way in
    let O : Cell → Type 0 = λ from. IfOk c.tour.result (λ r. IfNone r (W from c.deref.result.now)) in
    let Q : List Cell → Type 0 = λ cells. IfOk c.tour.result (λ r. IfNone r (W (met s.paths.now s.agent) cells)) in
    none-map c.tour.result (λ none. no_delivery_on s.grid.now s.nofollow s.paths.now s.agent c.args.stops.now under none) (subst Q avoid (subst O there c.tour.ensures.none))
