use Rattle.std.proofs.Common.{rules, ◌≡◌, None, Ok, Err}
use Rattle.wh_lines.specs.Text.{short_line}
use Rattle.wh_event.specs.declared.fault.LineFault.TheVariants.{Form, TooLong}
use Rattle.wh_replay.specs.Answers.{said}
use Rattle.wh_replay.proofs.Answered.{answers_skipped, answers_wrong, answers_long}
use Rattle.wh_replay.proofs.answering.answer_line.Goals as goal

pub returns-in-Ok-false-clause-answers : goal.returns-in-Ok-false-clause-answers
returns-in-Ok-false-clause-answers g c form =
    let e : said (short_line c.args.line.now) ≡ Ok None = search rules in
    answers_skipped g.P.Plans.fits_map g.P.Plans.slot_count (record { caller = c.args.caller; form = form }) _ c.args.warehouse.now.book c.args.spares.now.items e

pub returns-in-Err-Form-clause-answers : goal.returns-in-Err-Form-clause-answers
returns-in-Err-Form-clause-answers g c form =
    let e : said (short_line c.args.line.now) ≡ Err Form = search rules in
    answers_wrong g.P.Plans.fits_map g.P.Plans.slot_count (record { caller = c.args.caller; form = form }) _ c.args.warehouse.now.book c.args.spares.now.items e

pub returns-in-Err-TooLong-clause-answers : goal.returns-in-Err-TooLong-clause-answers
returns-in-Err-TooLong-clause-answers g c form =
    let e : said (short_line c.args.line.now) ≡ Err TooLong = search rules in
    answers_long g.P.Plans.fits_map g.P.Plans.slot_count (record { caller = c.args.caller; form = form }) _ c.args.warehouse.now.book c.args.spares.now.items e
