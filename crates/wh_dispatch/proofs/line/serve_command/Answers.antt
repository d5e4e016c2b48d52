use Rattle.std.proofs.Common.{rules, ◌≡◌, None, Some, Ok, Err, refl, ap, subst}
use Rattle.wh_dispatch.specs.Lines.{Asked}
use Rattle.std.specs.Prelude.{codes}
use Rattle.std.specs.Io.KnownBytes.{Appends}
use Rattle.std.proofs.KnownBytes.{Appends-nil}
use Rattle.wh_lines.specs.Text.{short_line}
use Rattle.wh_lines.specs.Output.{WritesFront}
use Rattle.wh_event.specs.declared.fault.LineFault.TheVariants.{Form, TooLong}
use Rattle.wh_replay.specs.Answers.{said}
use Rattle.wh_dispatch.proofs.Texts.{on_ok, on_fault, text_one}
use Rattle.wh_dispatch.proofs.Serving.{served_as, from_none, from_none_some}
use Rattle.wh_dispatch.proofs.line.serve_command.Goals as goal

pub returns-in-Ok-false-clause-ok : goal.returns-in-Ok-false-clause-ok
returns-in-Ok-false-clause-ok g c =
    let e : said (short_line c.args.line.now) ≡ Ok None = search rules in
    from_none _ _ _ _ (said (short_line c.args.line.now)) (Ok None) _ _ _ _ _ refl e (λ x. absurd cc) (Appends-nil _)

pub returns-in-Err-Form-clause-ok : goal.returns-in-Err-Form-clause-ok
returns-in-Err-Form-clause-ok g c =
    let e : said (short_line c.args.line.now) ≡ Err Form = search rules in
    on_ok c.tell.result (λ wrote. from_none _ _ _ _ (said (short_line c.args.line.now)) (Err Form) _ _ _ _ _ refl e (λ x. absurd cc)
    (subst (Appends _ _) (text_one (codes "refused C1")) wrote)) c.tell.ensures.ok

pub returns-in-Err-Form-clause-err : goal.returns-in-Err-Form-clause-err
returns-in-Err-Form-clause-err g c =
    let e : said (short_line c.args.line.now) ≡ Err Form = search rules in
    on_fault c.tell.result _ _ (λ fault is w. from_none_some _ _ _ _ (said (short_line c.args.line.now)) (Err Form) _ _ _ _ _ refl e (λ x. absurd cc) fault is
    (subst (WritesFront _ _) (text_one (codes "refused C1")) w)) c.tell.ensures.fault c.tell.ensures.err

pub returns-in-Err-TooLong-clause-ok : goal.returns-in-Err-TooLong-clause-ok
returns-in-Err-TooLong-clause-ok g c =
    let e : said (short_line c.args.line.now) ≡ Err TooLong = search rules in
    on_ok c.tell-in-Err-TooLong.result (λ wrote. from_none _ _ _ _ (said (short_line c.args.line.now)) (Err TooLong) _ _ _ _ _ refl e (λ x. absurd cc)
    (subst (Appends _ _) (text_one (codes "refused C2")) wrote)) c.tell-in-Err-TooLong.ensures.ok

pub returns-in-Err-TooLong-clause-err : goal.returns-in-Err-TooLong-clause-err
returns-in-Err-TooLong-clause-err g c =
    let e : said (short_line c.args.line.now) ≡ Err TooLong = search rules in
    on_fault c.tell-in-Err-TooLong.result _ _ (λ fault is w. from_none_some _ _ _ _ (said (short_line c.args.line.now)) (Err TooLong) _ _ _ _ _ refl e (λ x. absurd cc) fault is
    (subst (WritesFront _ _) (text_one (codes "refused C2")) w)) c.tell-in-Err-TooLong.ensures.fault c.tell-in-Err-TooLong.ensures.err

pub returns-in-Ok-true-clause-ok : goal.returns-in-Ok-true-clause-ok
returns-in-Ok-true-clause-ok g c =
    let e : said (short_line c.args.line.now) ≡ Ok (Some c.read_kept.new.command) = search rules in
    on_ok c.run.result (λ s. served_as g.P.Plans.fits_map g.P.Plans.slot_count c.args.asker c.args.vehicles.now.bound _ _ _ _ _ _ _ _ _ _ (ap Asked e) s) c.run.ensures.ok
