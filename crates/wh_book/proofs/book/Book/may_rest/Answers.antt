use Rattle.wh_book.proofs.Askers.{way-at}
use Rattle.wh_book.proofs.Kept.{kept-begins}
use Rattle.wh_book.proofs.book.Book.may_rest.Goals as goal

pub may_rest-requires-clause-begins : goal.may_rest-requires-clause-begins
may_rest-requires-clause-begins c = (c.self.inside.setting.grid, rw (c.points.ensures, c.homes.ensures) (kept-begins _ _ _ _ c.self.invariant.kept))

pub may_rest-requires-clause-ways : goal.may_rest-requires-clause-ways
may_rest-requires-clause-ways c = λ none grid agent known.
    rw (c.points.ensures, c.homes.ensures) (way-at c.self.inside.setting c.self.inside.floor.state grid agent (c.self.invariant.ways none agent known))

pub returns : goal.returns
returns c = rw (← c.self.view_is) (rw (c.points.ensures, c.homes.ensures) at c.may_rest.ensures c.self.inside.setting.grid)
