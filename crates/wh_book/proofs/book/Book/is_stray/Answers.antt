use Rattle.std.proofs.Common.{◌<◌, length, sym, subst}
use Rattle.wh_book.specs.Drafts.{Seen}
use Rattle.wh_book.proofs.Kept.{kept-start}
use Rattle.wh_book.proofs.book.Book.is_stray.Goals as goal

pub is_stray-requires-clause-start : goal.is_stray-requires-clause-start
is_stray-requires-clause-start c =
    rw c.points.ensures (kept-start _ _ _ _ c.args.agent c.self.invariant.kept (subst (λ (b : Seen). c.args.agent < length b.state.paths) (sym c.self.view_is) c.requires))

pub returns : goal.returns
returns c = rw (← c.self.view_is) (rw (c.points.ensures, c.homes.ensures) at c.is_stray.ensures c.self.inside.setting.grid)
