use Rattle.std.proofs.Common.{◌≡◌, ◌<◌, ◌^◌, ◌∙◌, ℕ, List, false, inl, inr, length, refl, sym, ap, subst, arith}
use Rattle.wh_log.specs.declared.follow_log.Followed.{Followed}
use Rattle.wh_log.specs.Logs.{IsLogText}
use Rattle.wh_log.specs.Judges.{Concludes}
use Rattle.wh_judge.specs.declared.verifier.VerifiedFront.{VerifiedFront}
use Rattle.wh_restore.specs.SoundFronts.{state_told}
use Rattle.wh_resume.specs.Keeping.{Opens, Steps}
use Rattle.wh_resume.specs.Judging.{SaysOfThree}
use Rattle.wh_resume.proofs.Given.{can_open_given}
use Rattle.wh_resume.proofs.Assembly.{opens_of, stands_ready, goes_ended, runs_behind, wrong_later, line_room, bad_ended}
use Rattle.wh_resume.proofs.judging.judge_ended.Goals as goal

pub follow-requires : goal.follow-requires
follow-requires c =
    let keeper = c.args.keeper.now in
    let ready = c.requires in
    can_open_given keeper.judge.site (state_told ready.is.front) keeper (stands_ready keeper c.args.begun.now ready.text ready.is ready) (opens_of keeper.judge.site ready.text c.args.begun.now ready.is)

pub line_behind-requires-clause-two : goal.line_behind-requires-clause-two
line_behind-requires-clause-two c =
    let keeper = c.args.keeper.now in
    let begun = c.args.begun.now in
    let ready = c.requires in
    let said = subst (λ (r : Followed). Concludes Opens Steps c.as_slice.result.now keeper c.follow.new.judge r) c.in-Bad.is c.in_ok-entries.ensures in
    let bad = rw c.as_slice.ensures.value at said in
    let three = wrong_later keeper.judge.site ready.text begun ready.is keeper c.in-Bad.line (stands_ready keeper begun ready.text ready.is ready) bad in
    omega (arith, three)

pub line_behind-requires-clause-room : goal.line_behind-requires-clause-room
line_behind-requires-clause-room c =
    let keeper = c.args.keeper.now in
    let begun = c.args.begun.now in
    let ready = c.requires in
    let said = subst (λ (r : Followed). Concludes Opens Steps c.as_slice.result.now keeper c.follow.new.judge r) c.in-Bad.is c.in_ok-entries.ensures in
    let bad = rw c.as_slice.ensures.value at said in
    let few : length begun.log.items < 2 ^ 63 = rw (← c.as_slice.ensures.value) (omega (arith, c.as_slice.type_inv.1)) in
    line_room keeper.judge.site ready.text begun ready.is _ c.in-Bad.line bad few

pub returns-in-Whole : goal.returns-in-Whole
returns-in-Whole c = λ text b.
    let keeper = c.args.keeper.now in
    let begun = c.args.begun.now in
    let said = subst (λ (r : Followed). Concludes Opens Steps c.as_slice.result.now keeper c.follow.new.judge r) c.in-Whole.is c.in_ok-entries.ensures in
    let log = subst (λ (t : List ℕ). IsLogText said.0 t) c.as_slice.ensures.value said.1 in
    let at = stands_ready keeper begun text b c.requires in
    let g = goes_ended keeper.judge.site text begun b keeper c.follow.new.judge said.0 log at said.2 in
    (runs_behind keeper.judge.site text begun b c.follow.new.judge log.version said.0 _ c.in-Whole.entries g said.3, λ e. refl)

pub returns-in-Bad : goal.returns-in-Bad
returns-in-Bad c = λ text b.
    let keeper = c.args.keeper.now in
    let begun = c.args.begun.now in
    let said = subst (λ (r : Followed). Concludes Opens Steps c.as_slice.result.now keeper c.follow.new.judge r) c.in-Bad.is c.in_ok-entries.ensures in
    let bad = rw c.as_slice.ensures.value at said in
    let at = stands_ready keeper begun text b c.requires in
    let wrong = bad_ended keeper.judge.site text begun b keeper c.in-Bad.line c.line_behind.result at bad c.line_behind.ensures in
    subst (λ (v : VerifiedFront). SaysOfThree keeper.judge.site false text v.verified v.is_ended) (sym c.bad.ensures) (inr wrong)
