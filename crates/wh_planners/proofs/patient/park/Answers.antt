use Rattle.std.proofs.Common.{◌≡◌, ◌∙◌, ◌+◌, ◌<◌, ℕ, List, Option, IfSome, IfNone, length, ap, sym, subst, arith}
use Rattle.wh_grid.specs.declared.cell.Cell.{Cell}
use Rattle.wh_path.specs.Paths.{at, cell_at, ends, others, path_of, horizon}
use Rattle.wh_field.specs.Distances.{IsRoute, IsNearestRoute}
use Rattle.wh_planner.specs.Laws.{IsUnderWay}
use Rattle.wh_planners.specs.Patience.{met, ParksPatiently}
use Rattle.wh_planners.proofs.Patience.{patient_park, no_parking}
use Rattle.wh_planners.proofs.Services.{own_is}
use Rattle.wh_planners.proofs.patient.park.Goals as goal

pub returns-in-Some-clause-found : goal.returns-in-Some-clause-found
returns-in-Some-clause-found c =
    let s = c.args.scene.now in
    let g = s.grid.now in
    let paths = s.paths.now in
    let allowed = c.args.allowed.now in
    let near = c.in-Some in
    let path = c.in_ok-path-in-Some.path in
    let read : c.paths-paths.result.now ≡ paths = c.paths-paths.ensures in
    let own = own_is c.paths-paths.result.now paths s.agent c.index-paths-scene.result c.requires.agent read c.index-paths-scene.is in
    let till : c.last_to_rest-wait.result ≡ horizon (others paths s.agent) = c.last_to_rest-wait.ensures.value ∙ ap (λ (ps : List (List Cell)). horizon (others ps s.agent)) read in
    let here : c.at-here.result ≡ met paths s.agent =
    c.at-here.ensures ∙ ap (λ p. at p c.last_to_rest-wait.result) own ∙ ap (λ k. at (path_of paths s.agent) k) till in
    let under : IsUnderWay g s.nofollow paths s.agent = record { known = c.requires.agent; walk = c.requires.walk; free = c.requires.free } in
    let avoid : c.deref.result.now ≡ ends (others paths s.agent) = c.deref.ensures.value ∙ c.in_ok-avoid.ensures ∙ ap (λ (ps : List (List Cell)). ends (others ps s.agent)) read in
    let O : Option (ℕ × List Cell) → Type 0 = λ r. IfSome r (λ n. IsNearestRoute g c.at-here.result allowed c.deref.result.now n.0 n.1) in
    let found : IsNearestRoute g c.at-here.result allowed c.deref.result.now near.index near.leg = subst O near.is c.in_ok-index.ensures.found in
    let H : Cell → Type 0 = λ from. IsNearestRoute g from allowed c.deref.result.now near.index near.leg in
    let A : List Cell → Type 0 = λ cells. IsNearestRoute g (met paths s.agent) allowed cells near.index near.leg in
    let size : length path ≡ horizon (others paths s.agent) + 1 = c.in_ok-path-in-Some.ensures.size ∙ ap (λ (n : ℕ). n + 1) till in
    let second = own_is c.paths-paths.result.now paths s.agent c.index-paths-scene-in-Some.result c.requires.agent read c.index-paths-scene-in-Some.is in
    let goes : (k : ℕ) → k < horizon (others paths s.agent) + 1 → at path k ≡ at (path_of paths s.agent) k =
    λ k h. c.in_ok-path-in-Some.ensures.goes k (omega arith) ∙ ap (λ p. at p k) second in
    subst (ParksPatiently g paths s.agent allowed) (sym c.in_ok-follow-in-Some.ensures.ok)
    (patient_park g s.nofollow paths s.agent allowed near.index near.leg path under (subst A avoid (subst H here found)) (size, goes))

pub returns-clause-none : goal.returns-clause-none
returns-clause-none c =
    let s = c.args.scene.now in
    let g = s.grid.now in
    let paths = s.paths.now in
    let allowed = c.args.allowed.now in
    let read : c.paths-paths.result.now ≡ paths = c.paths-paths.ensures in
    let own = own_is c.paths-paths.result.now paths s.agent c.index-paths-scene.result c.requires.agent read c.index-paths-scene.is in
    let till : c.last_to_rest-wait.result ≡ horizon (others paths s.agent) = c.last_to_rest-wait.ensures.value ∙ ap (λ (ps : List (List Cell)). horizon (others ps s.agent)) read in
    let here : c.at-here.result ≡ met paths s.agent =
    c.at-here.ensures ∙ ap (λ p. at p c.last_to_rest-wait.result) own ∙ ap (λ k. at (path_of paths s.agent) k) till in
    let under : IsUnderWay g s.nofollow paths s.agent = record { known = c.requires.agent; walk = c.requires.walk; free = c.requires.free } in
    let avoid : c.deref.result.now ≡ ends (others paths s.agent) = c.deref.ensures.value ∙ c.in_ok-avoid.ensures ∙ ap (λ (ps : List (List Cell)). ends (others ps s.agent)) read in
    let W : Cell → List Cell → Type 0 = λ from cells. (j : ℕ) (q : List Cell) → j < length allowed → IsRoute g from (cell_at allowed j) cells q → ⊥ in
    let O : Option (ℕ × List Cell) → Type 0 = λ r. IfNone r (W c.at-here.result c.deref.result.now) in
    let none : W c.at-here.result c.deref.result.now = subst O c.in-None.is c.in_ok-index.ensures.none in
    let H : Cell → Type 0 = λ from. W from c.deref.result.now in
    let A : List Cell → Type 0 = λ cells. W (met paths s.agent) cells in
    no_parking g s.nofollow paths s.agent allowed under (subst A avoid (subst H here none))
