use Rattle.std.proofs.Common.{◌≡◌, length, subst, Result, Ok, Err}
use Rattle.std.specs.Prelude.{IfErr, IfOk}
use Rattle.wh_lines.specs.Text.{short_line}
use Rattle.wh_serve.specs.Sayings.{said}
use Rattle.wh_serve.specs.Texts.{receipt_text}
use Rattle.wh_serve.specs.Calls.{Comes, TellsClock}
use Rattle.wh_serve.specs.declared.call.Came.{Came}
use Rattle.wh_serve.specs.declared.said.Said.TheVariants.{Nothing, Asks, Stop, NoCommand}
use Rattle.wh_serve.proofs.Clocks.{own_is}
use Rattle.wh_serve.proofs.Giving.{answered_nothing, answered_fault, answered_receipt, answered_stop, answered_without}
use Rattle.wh_serve.proofs.Losing.{loses_of, loses_stop}
use Rattle.wh_serve.proofs.told.answer.Goals as goal

if_ok : {A E : Type 0} (r : Result A E) (P Q : A → Type 0) → IfOk r P → ((a : A) → P a → Q a) → IfOk r Q
if_ok (Ok a) P Q p f = f a p
if_ok (Err e) P Q p f = tt

if_err : {A E : Type 0} (r : Result A E) (P Q : E → Type 0) → IfErr r P → ((e : E) → P e → Q e) → IfErr r Q
if_err (Ok a) P Q p f = tt
if_err (Err e) P Q p f = f e p

pub returns-in-Nothing-clause-ok : goal.returns-in-Nothing-clause-ok
returns-in-Nothing-clause-ok g c = λ history begins.
    let says : Nothing ≡ said (short_line c.args.line.now) = cc (c.in-Nothing.is, c.said_by.ensures) in
    answered_nothing c.args.may (length g.N.DeskName.cells) g.P.Plans.fits_map g.P.Plans.slot_count g.N.DeskName.origin.site.grid (receipt_text c.args.form g.N.DeskName.origin history) _ _ _ says

pub returns-in-NoCommand-clause-ok : goal.returns-in-NoCommand-clause-ok
returns-in-NoCommand-clause-ok g c = λ history begins.
    let says : NoCommand c.in-NoCommand.fault ≡ said (short_line c.args.line.now) = cc (c.in-NoCommand.is, c.said_by.ensures) in
    answered_fault c.args.may (length g.N.DeskName.cells) g.P.Plans.fits_map g.P.Plans.slot_count g.N.DeskName.origin.site.grid (receipt_text c.args.form g.N.DeskName.origin history) _ _ _ c.in-NoCommand.fault says

pub returns-in-Receipt-clause-ok : goal.returns-in-Receipt-clause-ok
returns-in-Receipt-clause-ok g c = λ history begins.
    let says : Asks c.in-Asks.command ≡ said (short_line c.args.line.now) = cc (c.in-Asks.is, c.said_by.ensures) in
    let came = subst (λ (r : Came). Comes c.args.may (length g.N.DeskName.cells) g.P.Plans.fits_map g.P.Plans.slot_count g.N.DeskName.origin.site.grid c.in-Asks.command c.args.pass.now c.args.spares.now.items c.call_allowed.new.pass c.call_allowed.new.spares.items r) c.in-Receipt.is c.call_allowed.ensures.came in
    let clock = subst (λ (r : Came). TellsClock g.N.DeskName.origin c.call_allowed.new.pass.known r) c.in-Receipt.is c.call_allowed.ensures.clock in
    answered_receipt c.args.may (length g.N.DeskName.cells) g.P.Plans.fits_map g.P.Plans.slot_count g.N.DeskName.origin.site.grid (receipt_text c.args.form g.N.DeskName.origin history) _ _ _ c.in-Asks.command _ _ _ _ (own_is c.args.form g.N.DeskName.origin history c.in-Receipt.receipt (clock history begins)) says came.0 came.1

pub returns-in-Without-clause-ok : goal.returns-in-Without-clause-ok
returns-in-Without-clause-ok g c = λ history begins.
    let says : Asks c.in-Asks.command ≡ said (short_line c.args.line.now) = cc (c.in-Asks.is, c.said_by.ensures) in
    let came = subst (λ (r : Came). Comes c.args.may (length g.N.DeskName.cells) g.P.Plans.fits_map g.P.Plans.slot_count g.N.DeskName.origin.site.grid c.in-Asks.command c.args.pass.now c.args.spares.now.items c.call_allowed.new.pass c.call_allowed.new.spares.items r) c.in-Without.is c.call_allowed.ensures.came in
    answered_without c.args.may (length g.N.DeskName.cells) g.P.Plans.fits_map g.P.Plans.slot_count g.N.DeskName.origin.site.grid (receipt_text c.args.form g.N.DeskName.origin history) _ _ _ c.in-Asks.command _ _ _ says came.0 came.1 came.2

pub returns-in-Lost-clause-lost : goal.returns-in-Lost-clause-lost
returns-in-Lost-clause-lost g c = λ history begins.
    let says : Asks c.in-Asks.command ≡ said (short_line c.args.line.now) = cc (c.in-Asks.is, c.said_by.ensures) in
    let came = subst (λ (r : Came). Comes c.args.may (length g.N.DeskName.cells) g.P.Plans.fits_map g.P.Plans.slot_count g.N.DeskName.origin.site.grid c.in-Asks.command c.args.pass.now c.args.spares.now.items c.call_allowed.new.pass c.call_allowed.new.spares.items r) c.in-Lost.is c.call_allowed.ensures.came in
    loses_of c.args.may (length g.N.DeskName.cells) g.P.Plans.fits_map g.P.Plans.slot_count g.N.DeskName.origin.site.grid (receipt_text c.args.form g.N.DeskName.origin history) _ c.in-Asks.command _ _ _ _ c.in-Lost.lost says came

pub returns-in-Stop-clause-ok : goal.returns-in-Stop-clause-ok
returns-in-Stop-clause-ok g c =
    let says : Stop ≡ said (short_line c.args.line.now) = cc (c.in-Stop.is, c.said_by.ensures) in
    if_ok c.answer_stop.result _ _ c.answer_stop.ensures.ok (λ told is history begins. answered_stop c.args.may (length g.N.DeskName.cells) g.P.Plans.fits_map g.P.Plans.slot_count g.N.DeskName.origin.site.grid (receipt_text c.args.form g.N.DeskName.origin history) _ _ _ _ (is c.args.form) says)

pub returns-in-Stop-clause-lost : goal.returns-in-Stop-clause-lost
returns-in-Stop-clause-lost g c =
    if_err c.answer_stop.result _ _ c.answer_stop.ensures.lost (λ why is history begins. loses_stop c.args.may (length g.N.DeskName.cells) g.P.Plans.fits_map g.P.Plans.slot_count g.N.DeskName.origin.site.grid (receipt_text c.args.form g.N.DeskName.origin history) _ _ _ why is)
