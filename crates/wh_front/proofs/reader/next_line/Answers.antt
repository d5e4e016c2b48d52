use Rattle.std.proofs.Common.{◌≡◌, Err, sym, ap, ◌∙◌}
use Rattle.std.proofs.lemmas.Result.{err_from_is_err_and}
use Rattle.wh_front.specs.declared.form_fault.FormFault.TheVariants as faults
use Rattle.wh_front.specs.declared.reader.NextFault.TheVariants as nexts
use Rattle.wh_front.specs.Places.{fault_of}
use Rattle.wh_front.proofs.NextLaws.{no_line, no_form, not_expected, no_line_miscounts, no_form_miscounts, not_miscounted, is_miscount, form_of}
use Rattle.wh_front.proofs.reader.next_line.Goals as goal

pub returns-in_default-clause-form : goal.returns-in_default-clause-form
returns-in_default-clause-form c = λ e. (no_line c.args.stage c.args.text.now c.in_default.ensures.none, no_line_miscounts c.args.stage c.args.text.now c.in_default.ensures.none)

pub returns-in_err-told-clause-form : goal.returns-in_err-told-clause-form
returns-in_err-told-clause-form c = λ e.
    let came = err_from_is_err_and c.from_residual.result c.from_residual.ensures.1 in
    let is = came.1 in
    let from = came.2 in
    let was : c.read_line.result ≡ Err c.in_err-told.field-0.0 = c.in_err-told.was in
    let fault : fault_of c.in_err-told.field-0.0 ≡ nexts.Form = cc in
    let form : c.read_line.result ≡ Err faults.Form = was ∙ ap Err (form_of c.in_err-told.field-0.0 fault) in (
      no_form c.args.stage c.args.text.now c.in-Some.line.now c.in-Some.rest.now c.read_line.result c.in-Some.ensures.line c.in-Some.ensures.parts c.read_line.ensures.only form,
      no_form_miscounts c.args.stage c.args.text.now c.in-Some.line.now c.in-Some.rest.now c.read_line.result c.in-Some.ensures.line c.in-Some.ensures.parts c.read_line.ensures.only form,
    )

pub returns-then-miscounts-clause-count : goal.returns-then-miscounts-clause-count
returns-then-miscounts-clause-count c = λ e.
    let lacks = sym c.expects.ensures ∙ c.if-expects.false in
    let may = sym c.miscounts.ensures ∙ c.if-miscounts.true in (
      not_expected c.args.stage c.args.text.now c.in-Some.line.now c.in-Some.rest.now c.in_ok-told.told c.in-Some.ensures.line c.in-Some.ensures.parts c.in_ok-told.ensures.found lacks,
      is_miscount c.args.stage c.args.text.now c.in-Some.line.now c.in-Some.rest.now c.in_ok-told.told c.in-Some.ensures.parts c.in_ok-told.ensures.found may,
    )

pub returns-clause-form : goal.returns-clause-form
returns-clause-form c = λ e.
    let lacks = sym c.expects.ensures ∙ c.if-expects.false in
    let none = sym c.miscounts.ensures ∙ c.if-miscounts.false in (
      not_expected c.args.stage c.args.text.now c.in-Some.line.now c.in-Some.rest.now c.in_ok-told.told c.in-Some.ensures.line c.in-Some.ensures.parts c.in_ok-told.ensures.found lacks,
      not_miscounted c.args.stage c.args.text.now c.in-Some.line.now c.in-Some.rest.now c.in_ok-told.told c.in-Some.ensures.line c.in-Some.ensures.parts c.in_ok-told.ensures.found none,
    )
