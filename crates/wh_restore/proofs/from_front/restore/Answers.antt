use Rattle.std.proofs.Common.{◌≡◌, Err, refl, sym, ap, ◌∙◌}
use Rattle.std.proofs.lemmas.Result.{err_from_is_err_and}
use Rattle.wh_restore.specs.declared.reason.RestoreFault.TheVariants as faults
use Rattle.wh_restore.specs.declared.restored.Restored.{Restored}
use Rattle.wh_restore.specs.SoundFronts.{site_of}
use Rattle.wh_restore.proofs.Finding.{IsMade, TellsFlaw, held_only, flawed_only, tells_flaw, held_at}
use Rattle.wh_restore.proofs.from_front.restore.Goals as goal

pub returns-in_err-rest-clause-only : goal.returns-in_err-rest-clause-only
returns-in_err-rest-clause-only c = λ front rest sound is.
    let site = site_of c.args.grid.now c.args.points.now c.args.rules in
    let r = c.in_ok-restoring.restoring in
    let came = err_from_is_err_and c.from_residual-in_err-rest.result c.from_residual-in_err-rest.ensures.1 in
    let fault = c.in_err-rest.field-0.0 in
    let told : TellsFlaw r.builder.site r.rules c.args.text.now fault = λ n reason e. c.follow.ensures.line n reason (c.in_err-rest.was ∙ ap Err e) in
    let here = tells_flaw site r.builder.site c.args.rules r.rules c.args.text.now fault c.in_ok-restoring.ensures.site c.in_ok-restoring.ensures.rules told in
    rw came.1 (came.2 ∙ flawed_only site c.args.rules c.args.text.now fault here front rest sound is)

pub returns-in_err-rest-clause-line : goal.returns-in_err-rest-clause-line
returns-in_err-rest-clause-line c = λ n reason e.
    let site = site_of c.args.grid.now c.args.points.now c.args.rules in
    let r = c.in_ok-restoring.restoring in
    let came = err_from_is_err_and c.from_residual-in_err-rest.result c.from_residual-in_err-rest.ensures.1 in
    let fault = c.in_err-rest.field-0.0 in
    let told : TellsFlaw r.builder.site r.rules c.args.text.now fault = λ n reason e. c.follow.ensures.line n reason (c.in_err-rest.was ∙ ap Err e) in
    let same : came.0 ≡ faults.Line n reason = cc in
    tells_flaw site r.builder.site c.args.rules r.rules c.args.text.now fault c.in_ok-restoring.ensures.site c.in_ok-restoring.ensures.rules told n reason (sym came.2 ∙ same)

pub returns-clause-only : goal.returns-clause-only
returns-clause-only c = λ front rest sound is.
    let site = site_of c.args.grid.now c.args.points.now c.args.rules in
    let r = c.in_ok-restoring.restoring in
    let new = c.follow.new.restoring in
    let x : Restored = record { head = new.head; state = c.in-Ok.state; callers = new.callers; rest = c.in_ok-rest.rest } in
    let made : IsMade new x = record { head = refl; callers = refl; state = c.in-Ok.ensures.state } in
    let held = held_at site r.builder.site c.args.rules r.rules c.args.text.now c.in_ok-rest.rest.now new c.in_ok-restoring.ensures.site c.in_ok-restoring.ensures.rules c.in_ok-rest.ensures.held in
    held_only site c.args.rules c.args.text.now c.in_ok-rest.rest.now new x held made front rest sound is
