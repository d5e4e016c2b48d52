use Rattle.std.proofs.Common.{◌≡◌, sym, ◌∙◌}
use Rattle.std.proofs.lemmas.Bool.{false≢true}
use Rattle.wh_core.specs.Steps.{IsBerth}
use Rattle.wh_stand.specs.Ways.{site_at}
use Rattle.wh_book.proofs.Straying.{allowed-by, not-so}
use Rattle.wh_book.proofs.strays.may_end.Goals.{else-homes-via-then-homes+else-not-is, else-homes-via-else-homes}
use Rattle.wh_book.proofs.strays.may_end.Goals as goal

pub returns-then-not-is_wanted : goal.returns-then-not-is_wanted
returns-then-not-is_wanted c = λ grid.
    let site = site_at grid c.args.points.now c.args.homes in
    let berth : IsBerth site c.args.agent c.args.cell = elim c.else-homes.branch [
      | else-homes-via-then-homes+else-not-is w ↦ record { point = c.requires.point; own = λ yes. w.is.ensures.0 w.if-not-is.false ∙ w.home_of.ensures }
      | else-homes-via-else-homes w ↦ record { point = c.requires.point; own = λ yes. absurd (false≢true (sym w.if-homes.false ∙ yes)) }
    ] in
    allowed-by site c.args.floor.now.state c.args.agent c.args.cell c.other_ends.result c.has.result c.other_ends.ensures berth
    (λ w. false≢true (sym c.if-not-is_wanted.true ∙ (c.is_wanted.ensures grid).1 w)) c.has.ensures

pub returns-else-not-is_wanted : goal.returns-else-not-is_wanted
returns-else-not-is_wanted c = λ grid. (
  λ yes. absurd (not-so c.is_wanted.result c.if-not-is_wanted.false yes),
  λ a. absurd (a.rest.not_wanted ((c.is_wanted.ensures grid).0 c.if-not-is_wanted.false)),
)
