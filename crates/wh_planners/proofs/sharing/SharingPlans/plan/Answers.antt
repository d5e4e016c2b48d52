use Rattle.std.proofs.Common.{◌≡◌, ℕ, ◌-◌, ◌≤◌, Option, Some, None, ap, subst, arith}
use Rattle.std.specs.Prelude.{IfSome}
use Rattle.wh_planners.proofs.Services.{no_way}
use Rattle.wh_planners.specs.Sharing.{Sharer}
use Rattle.wh_planners.proofs.sharing.SharingPlans.plan.Goals as goal

-- what is taken of a bound is no more than it
taken : (effort : Option ℕ) (most left : ℕ) → IfSome effort (λ n. most ≡ n) → IfSome effort (λ n. most - left ≤ n)
taken None most left is = tt
taken (Some n) most left is = omega arith

pub returns-in-Ok-clause-late : goal.returns-in-Ok-clause-late
returns-in-Ok-clause-late c = λ same other serves.
    omega (arith, c.in-Ok.ensures.late other serves, c.from-slack.ensures, ap (λ (n : Sharer). n.slack) c.self.view_is)

pub returns-in-Ok-clause-expanded : goal.returns-in-Ok-clause-expanded
returns-in-Ok-clause-expanded c =
    subst (λ (e : Option ℕ). IfSome e (λ n. c.most_of-most.result - c.search_for-found.new.effort ≤ n)) (ap (λ (n : Sharer). n.effort) c.self.view_is)
    (taken c.self.inside.effort c.most_of-most.result c.search_for-found.new.effort c.most_of-most.ensures)

pub returns-in-Err-NoPath-clause-none : goal.returns-in-Err-NoPath-clause-none
returns-in-Err-NoPath-clause-none c = λ same fault. (rw c.in-Err-NoPath.is at c.search_for-found.ensures.none) (rw c.in-Err-NoPath.is at c.in-Err-NoPath.field-0-is)

pub returns-in-Err-NoPath-clause-no_path : goal.returns-in-Err-NoPath-clause-no_path
returns-in-Err-NoPath-clause-no_path c = λ fault.
    let scene = c.args.scene.now in
    no_way scene.grid.now scene.nofollow scene.paths.now scene.agent c.requires.agent c.requires.walk c.requires.free c.args.duty c.requires.duty
    ((rw c.in-Err-NoPath.is at c.search_for-found.ensures.none) (rw c.in-Err-NoPath.is at c.in-Err-NoPath.field-0-is))
