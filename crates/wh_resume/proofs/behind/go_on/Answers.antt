use Rattle.std.proofs.Common.{◌≡◌, ◌≤◌, ◌<◌, ◌+◌, ◌-◌, ◌^◌, ◌∙◌, ℕ, List, inl, inr, length, refl, sym, ap, subst, arith}
use Rattle.wh_points.specs.Points.{Site}
use Rattle.wh_core.specs.States.{State}
use Rattle.wh_core.specs.Steps.{Run}
use Rattle.wh_core.specs.Laws.{IsBeginning}
use Rattle.wh_event.specs.declared.entry.Entry.{Entry}
use Rattle.wh_state.specs.Columns.{state_in}
use Rattle.wh_judge.specs.Judged.{Judged}
use Rattle.wh_log.specs.declared.front_log.Front.{Front}
use Rattle.wh_log.specs.Torn.{Recovers}
use Rattle.wh_restore.specs.SoundFronts.{state_told}
use Rattle.wh_resume.specs.Keeping.{Kept, Opens, Steps}
use Rattle.wh_resume.specs.Looking.{IsBegun}
use Rattle.wh_resume.proofs.Telling.{site_of}
use Rattle.wh_resume.proofs.Given.{StandsAt, can_open_given}
use Rattle.wh_resume.proofs.Assembly.{begins_of, stands_of, opens_of, told_log, goes_whole, goes_behind, breaks_behind, ends_so, never_unopened, wrong_later, line_room}
use Rattle.wh_resume.proofs.behind.go_on.Goals as goal

pub at-requires : goal.at-requires
at-requires c =
    let setting = c.args.setting in
    let is : c.with_homes-instance.result ≡ setting = c.with_homes-instance.ensures ∙ site_of setting c.grid.result.now c.points.result.now c.homes.result c.grid.ensures c.points.ensures c.homes.ensures in
    subst (λ (s : Site). IsBeginning s (state_in c.args.begun.parts)) (sym is) (begins_of setting c.requires.0 c.args.begun c.requires.1)

pub follow_front-requires : goal.follow_front-requires
follow_front-requires c =
    let setting = c.args.setting in
    let is : c.with_homes-instance.result ≡ setting = c.with_homes-instance.ensures ∙ site_of setting c.grid.result.now c.points.result.now c.homes.result c.grid.ensures c.points.ensures c.homes.ensures in
    let b = c.requires.1 in
    let at = stands_of setting c.requires.0 c.args.begun c.in-Ok.keeper b (c.in-Ok.ensures.judge ∙ ap (λ (s : Site). let j : Judged = record { site = s; state = state_in c.args.begun.parts } in j) is) c.in-Ok.ensures.given c.in-Ok.ensures.content in
    can_open_given setting (state_told b.front) c.in-Ok.keeper at (opens_of setting c.requires.0 c.args.begun b)

pub resume-book-requires-clause-opening : goal.resume-book-requires-clause-opening
resume-book-requires-clause-opening c = begins_of c.args.setting c.requires.0 c.args.begun c.requires.1

pub resume-book-requires-clause-run : goal.resume-book-requires-clause-run
resume-book-requires-clause-run c =
    let setting = c.args.setting in
    let begun = c.args.begun in
    let is : c.with_homes-instance.result ≡ setting = c.with_homes-instance.ensures ∙ site_of setting c.grid.result.now c.points.result.now c.homes.result c.grid.ensures c.points.ensures c.homes.ensures in
    let b = c.requires.1 in
    let at = stands_of setting c.requires.0 begun c.in-Ok.keeper b (c.in-Ok.ensures.judge ∙ ap (λ (s : Site). let j : Judged = record { site = s; state = state_in begun.parts } in j) is) c.in-Ok.ensures.given c.in-Ok.ensures.content in
    let new = c.follow_front.new.judge in
    let log = told_log begun.log.items c.as_slice-source.result.now c.in-Ok.keeper new c.in-Ok-follow_front.followed c.in-Ok-follow_front.ensures.front c.as_slice-source.ensures.value in
    let said = subst (λ (f : Front). Recovers Opens Steps begun.log.items c.in-Ok.keeper new f) c.in-Whole.is log in
    let g = (goes_whole setting c.requires.0 begun b c.in-Ok.keeper new c.in-Whole.version c.in-Whole.entries c.in-Whole.bytes c.in-Whole.is_ended at said).0 in
    let told = c.into_parts-first_slots in
    let history : told.result.history.items ≡ said.0.entries = told.ensures.history ∙ g.kept in
    subst (λ (s : State). Run setting s told.result.history.items told.result.floor.state) (sym b.state)
    (subst (λ (es : List Entry). Run setting (state_told b.front) es told.result.floor.state) (sym history)
    (subst (λ (s : State). Run setting (state_told b.front) said.0.entries s) (sym told.ensures.floor) g.run))

pub overflow_sub-result : goal.overflow_sub-result
overflow_sub-result c =
    let setting = c.args.setting in
    let begun = c.args.begun in
    let is : c.with_homes-instance.result ≡ setting = c.with_homes-instance.ensures ∙ site_of setting c.grid.result.now c.points.result.now c.homes.result c.grid.ensures c.points.ensures c.homes.ensures in
    let b = c.requires.1 in
    let at = stands_of setting c.requires.0 begun c.in-Ok.keeper b (c.in-Ok.ensures.judge ∙ ap (λ (s : Site). let j : Judged = record { site = s; state = state_in begun.parts } in j) is) c.in-Ok.ensures.given c.in-Ok.ensures.content in
    let new = c.follow_front.new.judge in
    let log = told_log begun.log.items c.as_slice-source.result.now c.in-Ok.keeper new c.in-Ok-follow_front.followed c.in-Ok-follow_front.ensures.front c.as_slice-source.ensures.value in
    let said = subst (λ (f : Front). Recovers Opens Steps begun.log.items c.in-Ok.keeper new f) c.in-Whole.is log in
    (goes_whole setting c.requires.0 begun b c.in-Ok.keeper new c.in-Whole.version c.in-Whole.entries c.in-Whole.bytes c.in-Whole.is_ended at said).1.two

pub unreachable-requires : goal.unreachable-requires
unreachable-requires c =
    let begun = c.args.begun in
    let log = told_log begun.log.items c.as_slice-source.result.now c.in-Ok.keeper c.follow_front.new.judge c.in-Ok-follow_front.followed c.in-Ok-follow_front.ensures.front c.as_slice-source.ensures.value in
    let said = subst (λ (f : Front). Recovers Opens Steps begun.log.items c.in-Ok.keeper c.follow_front.new.judge f) c.in-Unopened.is log in
    never_unopened c.args.setting c.requires.0 begun c.requires.1 said.0

pub overflow_sub-line : goal.overflow_sub-line
overflow_sub-line c =
    let setting = c.args.setting in
    let begun = c.args.begun in
    let is : c.with_homes-instance.result ≡ setting = c.with_homes-instance.ensures ∙ site_of setting c.grid.result.now c.points.result.now c.homes.result c.grid.ensures c.points.ensures c.homes.ensures in
    let b = c.requires.1 in
    let at = stands_of setting c.requires.0 begun c.in-Ok.keeper b (c.in-Ok.ensures.judge ∙ ap (λ (s : Site). let j : Judged = record { site = s; state = state_in begun.parts } in j) is) c.in-Ok.ensures.given c.in-Ok.ensures.content in
    let log = told_log begun.log.items c.as_slice-source.result.now c.in-Ok.keeper c.follow_front.new.judge c.in-Ok-follow_front.followed c.in-Ok-follow_front.ensures.front c.as_slice-source.ensures.value in
    let said = subst (λ (f : Front). Recovers Opens Steps begun.log.items c.in-Ok.keeper c.follow_front.new.judge f) c.in-Bad.is log in
    let three = wrong_later setting c.requires.0 begun b c.in-Ok.keeper c.in-Bad.line at said.0 in
    omega (arith, three)

pub overflow_add-line : goal.overflow_add-line
overflow_add-line c =
    let setting = c.args.setting in
    let begun = c.args.begun in
    let log = told_log begun.log.items c.as_slice-source.result.now c.in-Ok.keeper c.follow_front.new.judge c.in-Ok-follow_front.followed c.in-Ok-follow_front.ensures.front c.as_slice-source.ensures.value in
    let said = subst (λ (f : Front). Recovers Opens Steps begun.log.items c.in-Ok.keeper c.follow_front.new.judge f) c.in-Bad.is log in
    let few : length begun.log.items < 2 ^ 63 = rw (← c.as_slice-source.ensures.value) (omega (arith, c.as_slice-source.type_inv.1)) in
    let room = line_room setting c.requires.0 begun c.requires.1 _ c.in-Bad.line said.0 few in
    omega (arith, room)

pub overflow_sub-bytes : goal.overflow_sub-bytes
overflow_sub-bytes c =
    let setting = c.args.setting in
    let begun = c.args.begun in
    let is : c.with_homes-instance.result ≡ setting = c.with_homes-instance.ensures ∙ site_of setting c.grid.result.now c.points.result.now c.homes.result c.grid.ensures c.points.ensures c.homes.ensures in
    let b = c.requires.1 in
    let at = stands_of setting c.requires.0 begun c.in-Ok.keeper b (c.in-Ok.ensures.judge ∙ ap (λ (s : Site). let j : Judged = record { site = s; state = state_in begun.parts } in j) is) c.in-Ok.ensures.given c.in-Ok.ensures.content in
    let log = told_log begun.log.items c.as_slice-source.result.now c.in-Ok.keeper c.follow_front.new.judge c.in-Ok-follow_front.followed c.in-Ok-follow_front.ensures.front c.as_slice-source.ensures.value in
    let said = subst (λ (f : Front). Recovers Opens Steps begun.log.items c.in-Ok.keeper c.follow_front.new.judge f) c.in-Bad.is log in
    (ends_so setting c.requires.0 begun b c.in-Bad.line c.in-Bad.bytes (wrong_later setting c.requires.0 begun b c.in-Ok.keeper c.in-Bad.line at said.0) said.2).0

pub returns-in-Whole : goal.returns-in-Whole
returns-in-Whole c = λ text lines b.
    let setting = c.args.setting in
    let begun = c.args.begun in
    let is : c.with_homes-instance.result ≡ setting = c.with_homes-instance.ensures ∙ site_of setting c.grid.result.now c.points.result.now c.homes.result c.grid.ensures c.points.ensures c.homes.ensures in
    let at = stands_of setting text begun c.in-Ok.keeper b (c.in-Ok.ensures.judge ∙ ap (λ (s : Site). let j : Judged = record { site = s; state = state_in begun.parts } in j) is) c.in-Ok.ensures.given c.in-Ok.ensures.content in
    let new = c.follow_front.new.judge in
    let log = told_log begun.log.items c.as_slice-source.result.now c.in-Ok.keeper new c.in-Ok-follow_front.followed c.in-Ok-follow_front.ensures.front c.as_slice-source.ensures.value in
    let said = subst (λ (f : Front). Recovers Opens Steps begun.log.items c.in-Ok.keeper new f) c.in-Whole.is log in
    let g = goes_whole setting text begun b c.in-Ok.keeper new c.in-Whole.version c.in-Whole.entries c.in-Whole.bytes c.in-Whole.is_ended at said in
    let book = c.resume-book in (
      g.0.version_is,
      goes_behind setting text begun b new c.in-Whole.version said.0 c.in-Whole.is_ended _ book.result g.0 g.1.count book.ensures.site (book.ensures.opening ∙ b.state)
          (book.ensures.history ∙ c.into_parts-first_slots.ensures.history ∙ g.0.kept),
    )

pub returns-in-Bad : goal.returns-in-Bad
returns-in-Bad c = λ text lines b.
    let setting = c.args.setting in
    let begun = c.args.begun in
    let is : c.with_homes-instance.result ≡ setting = c.with_homes-instance.ensures ∙ site_of setting c.grid.result.now c.points.result.now c.homes.result c.grid.ensures c.points.ensures c.homes.ensures in
    let at = stands_of setting text begun c.in-Ok.keeper b (c.in-Ok.ensures.judge ∙ ap (λ (s : Site). let j : Judged = record { site = s; state = state_in begun.parts } in j) is) c.in-Ok.ensures.given c.in-Ok.ensures.content in
    let log = told_log begun.log.items c.as_slice-source.result.now c.in-Ok.keeper c.follow_front.new.judge c.in-Ok-follow_front.followed c.in-Ok-follow_front.ensures.front c.as_slice-source.ensures.value in
    let said = subst (λ (f : Front). Recovers Opens Steps begun.log.items c.in-Ok.keeper c.follow_front.new.judge f) c.in-Bad.is log in
    let three = wrong_later setting text begun b c.in-Ok.keeper c.in-Bad.line at said.0 in (
      (ends_so setting text begun b c.in-Bad.line c.in-Bad.bytes three said.2).1,
      inr (inl (breaks_behind setting text begun b c.in-Ok.keeper c.in-Bad.line (begun.preface.lines + (c.in-Bad.line - 2)) at said.0 said.1 (omega (arith, three)))),
    )
