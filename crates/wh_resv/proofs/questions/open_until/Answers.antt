use Rattle.std.proofs.Common.{◌≡◌, ℕ, ◌+◌, ◌-◌, ◌≤◌, ◌∙◌, min, remove, List, sym, ap, subst, arith}
use Rattle.std.proofs.lemmas.Bool.{false≢true}
use Rattle.wh_timetable.specs.declared.stay.Stay.{Stay}
use Rattle.wh_timetable.specs.Places.{stays_for}
use Rattle.wh_timetable.specs.Timetables.{time}
use Rattle.wh_resv.specs.Looks.{IsNextStart}
use Rattle.wh_resv.specs.Questions.{IsFreeWithin}
use Rattle.wh_resv.proofs.Passing.{next_start_of, passed_over, passed_later, passed_by, within_start, within_ever}
use Rattle.wh_resv.proofs.Telling.{agent_known, bars_not, none_bars, time_grows}
use Rattle.wh_resv.proofs.questions.open_until.Goals as goal
use Rattle.wh_resv.proofs.questions.open_until.Goals.{After-list-list, then-time-stay+then-is_others+then-next-stay, then-time-stay+then-is_others+else-next-stay+else-bars, else-time-stay, else-time-stay-via-then-time-stay+else-is_others, else-time-stay-via-else-time-stay}

grows : (c : After-list-list) → c.time-time.result ≤ c.time-next.result
grows c =
    let more = time_grows c.args.stays.now.clock c.args.k (c.args.k + 1) (omega arith) in
    omega (arith, more, c.time-time.ensures, c.time-next.ensures)

-- no later start in the list is no later one at the place
starts : (c : After-list-list) (start : ℕ) → IsNextStart c.list-list.result.now c.args.except c.args.to c.time-next.result start → IsNextStart (stays_for c.args.stays.now.places c.args.to) c.args.except c.args.to (time c.args.stays.now.clock (c.args.k + 1)) start
starts c start x =
    subst (λ (t : ℕ). IsNextStart (stays_for c.args.stays.now.places c.args.to) c.args.except c.args.to t start) c.time-next.ensures
    (subst (λ (s : List Stay). IsNextStart s c.args.except c.args.to c.time-next.result start) c.list-list.ensures x)

pub bars-requires-clause-within : goal.bars-requires-clause-within
bars-requires-clause-within c =
    agent_known c.args.stays.now c.args.paths.now c.requires.told c.args.except c.args.from c.args.to c.args.k
    c.list-list.result.now c.list-list.ensures c.time-time.result c.time-next.result c.time-time.ensures c.time-next.ensures c.loop-stay.stay-index c.loop-stay-test.true

pub returns-then-bars-clause-none : goal.returns-then-bars-clause-none
returns-then-bars-clause-none c = λ vacant none. bars_not c.args.stays.now c.args.paths.now c.requires.told c.args.except c.args.from c.args.to c.args.k
    c.list-list.result.now c.list-list.ensures c.time-time.result c.time-next.result c.time-time.ensures c.time-next.ensures c.loop-stay.stay-index c.loop-stay-test.true
    (c.bars.ensures.0 c.if-bars.true) (vacant, none)

pub loop-stay-preserved : goal.loop-stay-preserved
loop-stay-preserved c =
    let a = (goal.at.loop-stay-preserved c).After-list-list in
    let l = c.loop-stay in
    let paths = c.args.paths.now in
    let list = c.list-list.result.now in
    let now = c.time-time.result in
    let next = c.time-next.result in
    let then = c.if-time-stay.start in
    elim c.if-time-stay.branch [
      | then-time-stay+then-is_others+then-next-stay w ↦
          passed_later paths list c.args.except c.args.from c.args.to c.args.k now next l.stay-index l.start then l.invariant (w.is_others.ensures.0 w.if-is_others.true) (omega (arith, w.if-next-stay.true)) (grows a) (omega (arith, w.start-is, w.min-start.ensures))
      | then-time-stay+then-is_others+else-next-stay+else-bars w ↦
          passed_by paths list c.args.except c.args.from c.args.to c.args.k now next l.stay-index l.start then l.invariant (omega (arith, w.if-next-stay.false)) (λ b. false≢true (sym w.if-bars.false ∙ w.bars.ensures.1 b)) w.start-is
      | else-time-stay w ↦ elim w.else-time-stay.branch [
        | else-time-stay-via-then-time-stay+else-is_others v ↦
            passed_over paths list c.args.except c.args.from c.args.to c.args.k now next l.stay-index l.start then l.invariant (λ o still. false≢true (sym v.if-is_others.false ∙ v.is_others.ensures.1 o)) (grows a) w.start-is
        | else-time-stay-via-else-time-stay v ↦
            passed_over paths list c.args.except c.args.from c.args.to c.args.k now next l.stay-index l.start then l.invariant (λ o still. omega (arith, v.if-time-stay.false)) (grows a) w.start-is
      ]
    ]

pub returns-then-start-clause-some : goal.returns-then-start-clause-some
returns-then-start-clause-some c =
    let a = (goal.at.returns-then-start-clause-some c).After-list-list in
    let l = c.loop-stay in
    let done = c.loop-stay-test.false in
    let free = none_bars c.args.stays.now c.args.paths.now c.requires.told c.args.except c.args.from c.args.to c.args.k
    c.list-list.result.now c.list-list.ensures c.time-time.result c.time-next.result c.time-time.ensures c.time-next.ensures
    (λ j h. l.invariant.passes j (omega arith)) in (
      free.0,
      free.1,
      within_ever c.args.stays.now c.args.paths.now c.requires.told c.args.except c.args.to (c.args.k + 1) c.args.limit l.start (omega arith) free.0
          (starts a l.start (next_start_of c.args.paths.now c.list-list.result.now c.args.except c.args.from c.args.to c.args.k c.time-time.result c.time-next.result l.stay-index l.start (omega arith) l.invariant)) c.if-start.true,
    )

pub returns-clause-some : goal.returns-clause-some
returns-clause-some c =
    let a = (goal.at.returns-clause-some c).After-list-list in
    let l = c.loop-stay in
    let done = c.loop-stay-test.false in
    let free = none_bars c.args.stays.now c.args.paths.now c.requires.told c.args.except c.args.from c.args.to c.args.k
    c.list-list.result.now c.list-list.ensures c.time-time.result c.time-next.result c.time-time.ensures c.time-next.ensures
    (λ j h. l.invariant.passes j (omega arith)) in
    let until : c.min.result ≡ min (l.start - 1 - c.args.stays.now.clock) c.args.limit = c.min.ensures ∙ ap (λ n. min n c.args.limit) (c.saturating_sub.ensures ∙ ap (λ n. l.start - 1 - n) c.clock.ensures.value) in (
      free.0,
      free.1,
      subst (IsFreeWithin (remove c.args.paths.now c.args.except) c.args.to (c.args.k + 1) c.args.limit) (sym until)
          (within_start c.args.stays.now c.args.paths.now c.requires.told c.args.except c.args.to (c.args.k + 1) c.args.limit l.start (omega arith) free.0
          (starts a l.start (next_start_of c.args.paths.now c.list-list.result.now c.args.except c.args.from c.args.to c.args.k c.time-time.result c.time-next.result l.stay-index l.start (omega arith) l.invariant)) c.if-start.false),
    )
