use Rattle.std.proofs.Common.{sym, ◌∙◌, inl, inr}
use Rattle.std.proofs.lemmas.Bool.{false≢true}
use Rattle.wh_delivery.proofs.Going.{begins-asked, begins-unasked, stuck-there, vain-unformed}
use Rattle.wh_delivery.proofs.deliver.begin.Goals as goal

pub returns-then-some-clause-asked : goal.returns-then-some-clause-asked
returns-then-some-clause-asked g c =
    let book = c.args.warehouse.now.book in
    let a = c.in-Ok.ensures.asked in (
      a.0,
      a.1,
      a.2,
      begins-asked book.site book.state c.ask_all.new.warehouse.book.state c.in-Ok.came.some a.0 c.if-some.true a.3.0 (λ nothing. elim c.else-in_vain.either [
        | inl stands ↦ false≢true (sym stands.1 ∙ c.all_stand-stand.ensures.1 nothing.resting)
        | inr brought ↦ a.3.2 brought nothing.refused
      ]),
    )

pub returns-then-stand-clause-why : goal.returns-then-stand-clause-why
returns-then-stand-clause-why g c =
    let book = c.args.warehouse.now.book in
    let new = c.ask_all.new.warehouse.book in
    let a = c.in-Ok.ensures.asked in
    stuck-there c.args.caller book new c.in-Ok.came.some a.0 a.1 c.if-some.true a.3.0 (a.3.1 c.if-in_vain.true) (c.all_stand-stand.ensures.0 c.if-stand.true)

pub returns-then-stand-clause-formed : goal.returns-then-stand-clause-formed
returns-then-stand-clause-formed g c _ =
    let a = c.in-Ok.ensures.asked in
    vain-unformed c.args.caller c.args.warehouse.now.book c.ask_all.new.warehouse.book c.in-Ok.came.some a.0 c.if-some.true a.3.0 (a.3.1 c.if-in_vain.true) a.1

pub returns-clause-asked : goal.returns-clause-asked
returns-clause-asked g c =
    let book = c.args.warehouse.now.book in
    let a = c.in-Ok.ensures.asked in (
      a.0,
      a.1,
      a.2,
      begins-unasked book.site book.state c.ask_all.new.warehouse.book.state c.in-Ok.came.some c.all_stand-stand.result a.0 c.requires.not_closed c.if-some.false
          c.all_stand-stand.ensures a.3.0,
    )
