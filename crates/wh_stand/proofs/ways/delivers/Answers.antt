use Rattle.std.proofs.Common.{sym, ◌∙◌}
use Rattle.std.proofs.lemmas.Bool.{false≢true}
use Rattle.wh_stand.proofs.Passing.{delivers-by, delivers-to}
use Rattle.wh_stand.proofs.ways.delivers.Goals as goal

pub returns-then-is : goal.returns-then-is
returns-then-is c =
    let ends = sym c.end.ensures ∙ c.is.ensures.0 c.if-is.true ∙ c.last_of.ensures in (
      λ yes. delivers-by c.args.homes c.args.home c.args.stops.now c.args.path.now (c.goes_through.ensures.0 yes) ends,
      λ d. c.goes_through.ensures.1 (delivers-to c.args.homes c.args.home c.args.stops.now c.args.path.now d).0,
    )

pub returns-else-is : goal.returns-else-is
returns-else-is c = (
  λ yes. absurd (false≢true (sym c.if-is.false ∙ yes)),
  λ d. absurd (false≢true (sym c.if-is.false ∙ c.is.ensures.1 (c.end.ensures ∙ (delivers-to c.args.homes c.args.home c.args.stops.now c.args.path.now d).1 ∙ sym c.last_of.ensures))),
)
