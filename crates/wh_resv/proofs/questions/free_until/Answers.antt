use Rattle.std.proofs.Common.{ℕ, ◌-◌, remove, List, sym, subst, ◌∙◌, ap}
use Rattle.wh_timetable.specs.declared.stay.Stay.{Stay}
use Rattle.wh_timetable.specs.Places.{stays_for}
use Rattle.wh_timetable.specs.Timetables.{time}
use Rattle.wh_resv.specs.Looks.{IsNextStart}
use Rattle.wh_resv.specs.Questions.{IsLastFree}
use Rattle.wh_resv.proofs.Telling.{until_start, ever_free}
use Rattle.wh_resv.proofs.questions.free_until.Goals as goal
use Rattle.wh_resv.proofs.questions.free_until.Goals.{After-next_start-start}

next : (c : After-next_start-start) → IsNextStart (stays_for c.args.stays.now.places c.args.cell) c.args.except c.args.cell (time c.args.stays.now.clock c.args.k) c.next_start-start.result
next c =
    subst (λ (t : ℕ). IsNextStart (stays_for c.args.stays.now.places c.args.cell) c.args.except c.args.cell t c.next_start-start.result) c.time.ensures
    (subst (λ (s : List Stay). IsNextStart s c.args.except c.args.cell c.time.result c.next_start-start.result) c.list.ensures c.next_start-start.ensures)

pub returns-then-start-clause-none : goal.returns-then-start-clause-none
returns-then-start-clause-none c =
    let a = (goal.at.returns-then-start-clause-none c).After-next_start-start in
    ever_free c.args.stays.now c.args.paths.now c.requires.told c.args.except c.args.cell c.args.k c.next_start-start.result c.requires.vacant (next a) c.if-start.true

pub returns-else-start-clause-some : goal.returns-else-start-clause-some
returns-else-start-clause-some c =
    let a = (goal.at.returns-else-start-clause-some c).After-next_start-start in
    let start = c.next_start-start.result in
    subst (IsLastFree (remove c.args.paths.now c.args.except) c.args.cell c.args.k) (sym (c.saturating_sub.ensures ∙ ap (λ n. start - 1 - n) c.clock.ensures.value))
    (until_start c.args.stays.now c.args.paths.now c.requires.told c.args.except c.args.cell c.args.k start c.requires.vacant (next a) c.if-start.false)
