use Rattle.std.proofs.Common.{subst}
use Rattle.wh_path.specs.Paths.{AllFree}
use Rattle.wh_book.specs.Drafts.{Seen}
use Rattle.wh_book.proofs.Kept.{kept-free}
use Rattle.wh_book.proofs.book.Book.paths.Goals as goal

pub returns-clause-free : goal.returns-clause-free
returns-clause-free c = subst (λ (s : Seen). AllFree s.site.layout.nofollow s.state.paths) c.self.view_is (kept-free _ _ _ _ c.self.invariant.kept)
