use Rattle.std.proofs.Common.{◌↔◌, ◌-◌, ◌≤◌, remove, List, All, sym, ap, subst, ◌∙◌, arith}
use Rattle.wh_grid.specs.declared.cell.Cell.{Cell}
use Rattle.wh_timetable.specs.declared.stay.Stay.{Stay}
use Rattle.wh_timetable.specs.Places.{stays_for}
use Rattle.wh_resv.specs.Looks.{IsLastEnd}
use Rattle.wh_resv.specs.Others.{StaysAway}
use Rattle.wh_resv.proofs.Telling.{since_end, never_ends}
use Rattle.wh_resv.proofs.questions.not_before.Goals as goal
use Rattle.wh_resv.proofs.questions.not_before.Goals.{After-last_end-end}

last : (c : After-last_end-end) → IsLastEnd (stays_for c.args.stays.now.places c.args.cell) c.args.except c.args.cell c.last_end-end.result
last c = subst (λ (s : List Stay). IsLastEnd s c.args.except c.args.cell c.last_end-end.result) c.list.ensures c.last_end-end.ensures

pub returns-then-end-clause-none : goal.returns-then-end-clause-none
returns-then-end-clause-none c =
    let a = (goal.at.returns-then-end-clause-none c).After-last_end-end in
    never_ends c.args.stays.now c.args.paths.now c.requires c.args.except c.args.cell (subst (IsLastEnd (stays_for c.args.stays.now.places c.args.cell) c.args.except c.args.cell) c.if-end.true (last a))

pub returns-else-end-clause-some : goal.returns-else-end-clause-some
returns-else-end-clause-some c =
    let a = (goal.at.returns-else-end-clause-some c).After-last_end-end in
    let end = c.last_end-end.result in
    λ k. subst (λ t. All (λ (q : List Cell). StaysAway q c.args.cell k) (remove c.args.paths.now c.args.except) ↔ t ≤ k)
    (sym (c.saturating_sub.ensures ∙ ap (λ n. end - n) c.clock.ensures.value))
    (since_end c.args.stays.now c.args.paths.now c.requires c.args.except c.args.cell end (last a) (let ne = c.if-end.false in omega arith) k)
