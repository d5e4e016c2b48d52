use Rattle.std.proofs.Common.{rules, ◌≡◌, None, Ok, Err, refl}
use Rattle.wh_lines.specs.Text.{short_line}
use Rattle.wh_event.specs.declared.fault.LineFault.TheVariants.{Form, TooLong}
use Rattle.wh_replay.specs.Answers.{said}
use Rattle.wh_replay.proofs.Serving.{gives_none, serves_none, serves_one, serves_begun}
use Rattle.wh_replay.proofs.answer.answer.Goals as goal

pub returns-in-Ok-false-clause-ok : goal.returns-in-Ok-false-clause-ok
returns-in-Ok-false-clause-ok g c =
    let e : said (short_line c.args.line.now) ≡ Ok None = search rules in
    serves_none _ _ _ _ _ _ _ _ _ (gives_none g.P.Plans.fits_map g.P.Plans.slot_count c.args.asker _ c.args.warehouse.now.book c.args.spares.now.items (Ok None) refl e)

pub returns-in-Err-Form-clause-ok : goal.returns-in-Err-Form-clause-ok
returns-in-Err-Form-clause-ok g c =
    let e : said (short_line c.args.line.now) ≡ Err Form = search rules in
    serves_one _ _ _ _ _ _ _ _ _ _ _ (gives_none g.P.Plans.fits_map g.P.Plans.slot_count c.args.asker _ c.args.warehouse.now.book c.args.spares.now.items (Err Form) refl e)
    c.write_line.result c.write_line.ensures

pub returns-in-Err-Form-clause-err : goal.returns-in-Err-Form-clause-err
returns-in-Err-Form-clause-err g c =
    let e : said (short_line c.args.line.now) ≡ Err Form = search rules in
    serves_begun _ _ _ _ _ _ _ _ _ _ _ (gives_none g.P.Plans.fits_map g.P.Plans.slot_count c.args.asker _ c.args.warehouse.now.book c.args.spares.now.items (Err Form) refl e)
    c.write_line.result c.write_line.ensures

pub returns-in-Err-TooLong-clause-ok : goal.returns-in-Err-TooLong-clause-ok
returns-in-Err-TooLong-clause-ok g c =
    let e : said (short_line c.args.line.now) ≡ Err TooLong = search rules in
    serves_one _ _ _ _ _ _ _ _ _ _ _ (gives_none g.P.Plans.fits_map g.P.Plans.slot_count c.args.asker _ c.args.warehouse.now.book c.args.spares.now.items (Err TooLong) refl e)
    c.write_line-in-Err-TooLong.result c.write_line-in-Err-TooLong.ensures

pub returns-in-Err-TooLong-clause-err : goal.returns-in-Err-TooLong-clause-err
returns-in-Err-TooLong-clause-err g c =
    let e : said (short_line c.args.line.now) ≡ Err TooLong = search rules in
    serves_begun _ _ _ _ _ _ _ _ _ _ _ (gives_none g.P.Plans.fits_map g.P.Plans.slot_count c.args.asker _ c.args.warehouse.now.book c.args.spares.now.items (Err TooLong) refl e)
    c.write_line-in-Err-TooLong.result c.write_line-in-Err-TooLong.ensures
