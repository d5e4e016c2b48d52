use Rattle.std.proofs.Common.{subst, ℕ, ◌<◌, length}
use Rattle.wh_path.specs.Paths.{AllFree, IsWalk, path_of}
use Rattle.wh_book.specs.Drafts.{Seen}
use Rattle.wh_book.proofs.Kept.{kept-free, kept-walks}
use Rattle.wh_book.proofs.book.Book.timetable.Goals as goal

pub returns-clause-free : goal.returns-clause-free
returns-clause-free c = subst (λ (s : Seen). AllFree s.site.layout.nofollow s.state.paths) c.self.view_is (kept-free _ _ _ _ c.self.invariant.kept)

pub returns-clause-walks : goal.returns-clause-walks
returns-clause-walks c =
    subst (λ (s : Seen). (agent : ℕ) → agent < length s.state.paths → IsWalk s.site.grid (path_of s.state.paths agent)) c.self.view_is (kept-walks _ _ _ _ c.self.invariant.kept)
