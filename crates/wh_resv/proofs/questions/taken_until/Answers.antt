use Rattle.std.proofs.Common.{◌≡◌, ℕ, ◌-◌, remove, List, sym, subst, ◌∙◌, ap, arith}
use Rattle.wh_timetable.specs.declared.stay.Stay.{Stay}
use Rattle.wh_timetable.specs.Stays.{endless}
use Rattle.wh_timetable.specs.Places.{stays_for}
use Rattle.wh_timetable.specs.Timetables.{time}
use Rattle.wh_resv.specs.Looks.{IsEndAt, IsFreeFor}
use Rattle.wh_resv.specs.Questions.{IsTakenUntil}
use Rattle.wh_resv.proofs.Telling.{taken_to, taken_always, taken_not}
use Rattle.wh_resv.proofs.questions.taken_until.Goals as goal

pub returns-in_default-clause-some : goal.returns-in_default-clause-some
returns-in_default-clause-some c =
    let except = c.args.except in
    let cell = c.args.cell in
    taken_not c.args.stays.now c.args.paths.now c.requires except cell c.args.k
    (subst (λ (t : ℕ). IsFreeFor (stays_for c.args.stays.now.places c.args.cell) except cell t) c.time.ensures (subst (λ (s : List Stay). IsFreeFor s except cell c.time.result) c.list.ensures c.in_default.ensures.none))

pub returns-then-over-lt4294967295-clause-some : goal.returns-then-over-lt4294967295-clause-some
returns-then-over-lt4294967295-clause-some c =
    let except = c.args.except in
    let cell = c.args.cell in
    let over = c.in-Some.over in
    let end : IsEndAt (stays_for c.args.stays.now.places cell) except cell (time c.args.stays.now.clock c.args.k) over =
    subst (λ (t : ℕ). IsEndAt (stays_for c.args.stays.now.places c.args.cell) except cell t over) c.time.ensures (subst (λ (s : List Stay). IsEndAt s except cell c.time.result over) c.list.ensures c.in-Some.ensures.some) in
    subst (IsTakenUntil (remove c.args.paths.now except) cell c.args.k) (sym (c.saturating_sub.ensures ∙ ap (λ n. over - n) c.clock.ensures.value))
    (taken_to c.args.stays.now c.args.paths.now c.requires except cell c.args.k over end (omega arith))

pub returns-else-over-lt4294967295-clause-none : goal.returns-else-over-lt4294967295-clause-none
returns-else-over-lt4294967295-clause-none c =
    let except = c.args.except in
    let cell = c.args.cell in
    let over = c.in-Some.over in
    let end : IsEndAt (stays_for c.args.stays.now.places cell) except cell (time c.args.stays.now.clock c.args.k) over =
    subst (λ (t : ℕ). IsEndAt (stays_for c.args.stays.now.places c.args.cell) except cell t over) c.time.ensures (subst (λ (s : List Stay). IsEndAt s except cell c.time.result over) c.list.ensures c.in-Some.ensures.some) in
    let always : over ≡ endless = omega arith in
    taken_always c.args.stays.now c.args.paths.now c.requires except cell c.args.k (subst (IsEndAt (stays_for c.args.stays.now.places cell) except cell (time c.args.stays.now.clock c.args.k)) always end)
