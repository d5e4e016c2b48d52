-- when the visits of a task are made
use Rattle.std.proofs.Common.{◌≡◌, ◌<◌, ◌≤◌, ◌∙◌, inl, inr, get_or, sym, ap, arith}
use Rattle.std.proofs.lemmas.Bool.{cases_eq, cases_lt}
use Rattle.wh_drive.specs.Drives.{planned, reached}
use Rattle.wh_drive.specs.Runs.{Start, Arrive, Tick}
use Rattle.wh_drive.specs.Visits.{VisitsAreInOrder, EachIsMadeOnArrival, WhatIsMadeStays}
use Rattle.wh_drive.proofs.Going.{reached-start, reached-own, reached-other, steps-run}

pub visits_are_in_order : VisitsAreInOrder
visits_are_in_order d agent times i j ordered h made =
    let visit = made.visit in
    let over = made.over in
    let before = ordered i j h visit in
    record { visit = omega arith; over = omega arith }

pub each_is_made_on_arrival : EachIsMadeOnArrival
each_is_made_on_arrival events old (Start other) new agent times number r step not made =
    let same = reached-start old new other agent step in
    let over = made.over in
    absurd (not (record { visit = made.visit; over = omega arith }))
each_is_made_on_arrival events old (Arrive other step_number) new agent times number r step not made =
    let over = made.over in
    elim (cases_eq agent other) [
      | inl e ↦
          let one = reached-own old new other step_number step in
          let mine : reached new agent ≡ reached new other = ap (λ k. reached new k) e in
          let mine' : reached old agent ≡ reached old other = ap (λ k. reached old k) e in
          let due = step.0.due in
          let late : get_or times number 0 ≤ reached old agent → ⊥ = λ l. not (record { visit = made.visit; over = l }) in
          let more : reached old agent < get_or times number 0 = elim (cases_lt (reached old agent) (get_or times number 0)) [
            | inl l ↦ l
            | inr g ↦ absurd (late g)
          ] in
          let time : step_number ≡ get_or times number 0 = omega arith in
          let now : reached new agent ≡ get_or times number 0 = omega arith in
          record { by = ap (λ k. Arrive k step_number) (sym e) ∙ ap (Arrive agent) time; stands = ap (planned new agent) now }
      | inr ne ↦
          let same = reached-other old new other step_number agent ne step in
          absurd (not (record { visit = made.visit; over = omega arith }))
    ]
each_is_made_on_arrival events old (Tick cells) new agent times number r step not made =
    let same : reached new agent ≡ reached old agent = ap (λ d. reached d agent) step.1 in
    let over = made.over in
    absurd (not (record { visit = made.visit; over = omega arith }))

pub what_is_made_stays : WhatIsMadeStays
what_is_made_stays events old later new agent times number r run made =
    let over = made.over in
    let more = steps-run old later new agent run in
    let now = more.now in
    record { visit = made.visit; over = omega arith }
