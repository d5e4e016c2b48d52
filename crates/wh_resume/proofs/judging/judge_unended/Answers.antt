use Rattle.std.proofs.Common.{◌≡◌, ◌<◌, ◌^◌, ◌∙◌, ℕ, List, inl, inr, length, true, refl, sym, ap, subst, arith}
use Rattle.std.proofs.lemmas.Bool.{false≢true}
use Rattle.wh_log.specs.declared.front_log.Front.{Front}
use Rattle.wh_log.specs.Torn.{Recovers}
use Rattle.wh_judge.specs.declared.verifier.VerifiedFront.{VerifiedFront}
use Rattle.wh_restore.specs.SoundFronts.{state_told}
use Rattle.wh_resume.specs.Keeping.{Opens, Steps}
use Rattle.wh_resume.specs.Judging.{SaysOfThree}
use Rattle.wh_resume.proofs.Given.{can_open_given}
use Rattle.wh_resume.proofs.Assembly.{opens_of, stands_ready, told_log, goes_whole, runs_behind, never_unopened, wrong_later, line_room, bad_unended}
use Rattle.wh_resume.proofs.judging.judge_unended.Goals as goal

pub follow_front-requires : goal.follow_front-requires
follow_front-requires c =
    let keeper = c.args.keeper.now in
    let ready = c.requires in
    can_open_given keeper.judge.site (state_told ready.is.front) keeper (stands_ready keeper c.args.begun.now ready.text ready.is ready) (opens_of keeper.judge.site ready.text c.args.begun.now ready.is)

pub unreachable-requires : goal.unreachable-requires
unreachable-requires c =
    let keeper = c.args.keeper.now in
    let begun = c.args.begun.now in
    let ready = c.requires in
    let log = told_log begun.log.items c.as_slice-source.result.now keeper c.follow_front.new.judge c.in-Ok.followed c.in-Ok.ensures.front c.as_slice-source.ensures.value in
    let said = subst (λ (f : Front). Recovers Opens Steps begun.log.items keeper c.follow_front.new.judge f) c.in-Unopened.is log in
    never_unopened keeper.judge.site ready.text begun ready.is said.0

pub line_behind-requires-clause-two : goal.line_behind-requires-clause-two
line_behind-requires-clause-two c =
    let keeper = c.args.keeper.now in
    let begun = c.args.begun.now in
    let ready = c.requires in
    let log = told_log begun.log.items c.as_slice-source.result.now keeper c.follow_front.new.judge c.in-Ok.followed c.in-Ok.ensures.front c.as_slice-source.ensures.value in
    let said = subst (λ (f : Front). Recovers Opens Steps begun.log.items keeper c.follow_front.new.judge f) c.in-Bad.is log in
    let three = wrong_later keeper.judge.site ready.text begun ready.is keeper c.in-Bad.line (stands_ready keeper begun ready.text ready.is ready) said.0 in
    omega (arith, three)

pub line_behind-requires-clause-room : goal.line_behind-requires-clause-room
line_behind-requires-clause-room c =
    let keeper = c.args.keeper.now in
    let begun = c.args.begun.now in
    let ready = c.requires in
    let log = told_log begun.log.items c.as_slice-source.result.now keeper c.follow_front.new.judge c.in-Ok.followed c.in-Ok.ensures.front c.as_slice-source.ensures.value in
    let said = subst (λ (f : Front). Recovers Opens Steps begun.log.items keeper c.follow_front.new.judge f) c.in-Bad.is log in
    let few : length begun.log.items < 2 ^ 63 = rw (← c.as_slice-source.ensures.value) (omega (arith, c.as_slice-source.type_inv.1)) in
    line_room keeper.judge.site ready.text begun ready.is _ c.in-Bad.line said.0 few

pub returns-in-Whole : goal.returns-in-Whole
returns-in-Whole c = λ text b.
    let keeper = c.args.keeper.now in
    let begun = c.args.begun.now in
    let new = c.follow_front.new.judge in
    let log = told_log begun.log.items c.as_slice-source.result.now keeper new c.in-Ok.followed c.in-Ok.ensures.front c.as_slice-source.ensures.value in
    let said = subst (λ (f : Front). Recovers Opens Steps begun.log.items keeper new f) c.in-Whole.is log in
    let at = stands_ready keeper begun text b c.requires in
    let g = goes_whole keeper.judge.site text begun b keeper new c.in-Whole.version c.in-Whole.entries c.in-Whole.bytes c.in-Whole.is_ended at said in
    (runs_behind keeper.judge.site text begun b new c.in-Whole.version said.0 c.in-Whole.is_ended c.in-Whole.entries g.0 said.3, λ e. absurd (false≢true (sym e)))

pub returns-in-Bad : goal.returns-in-Bad
returns-in-Bad c = λ text b.
    let keeper = c.args.keeper.now in
    let begun = c.args.begun.now in
    let log = told_log begun.log.items c.as_slice-source.result.now keeper c.follow_front.new.judge c.in-Ok.followed c.in-Ok.ensures.front c.as_slice-source.ensures.value in
    let said = subst (λ (f : Front). Recovers Opens Steps begun.log.items keeper c.follow_front.new.judge f) c.in-Bad.is log in
    let at = stands_ready keeper begun text b c.requires in
    let wrong = bad_unended keeper.judge.site text begun b keeper c.in-Bad.line c.line_behind.result at said.0 said.1 c.line_behind.ensures in
    subst (λ (v : VerifiedFront). SaysOfThree keeper.judge.site true text v.verified v.is_ended) (sym c.bad.ensures) (inr wrong)
