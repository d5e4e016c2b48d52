use Rattle.std.proofs.Common.{subst, sym}
use Rattle.wh_path.specs.Paths.{end_of}
use Rattle.wh_core.specs.Steps.{IsDue, IsRestCell, NoneIsNext}
use Rattle.wh_book.specs.Drafts.{Seen}
use Rattle.wh_book.proofs.Askers.{none-at_once, rests-at_once}
use Rattle.wh_book.proofs.Kept.{kept-begins}
use Rattle.wh_book.proofs.book.Book.rests_at_once.Goals as goal

pub returns-clause-none : goal.returns-clause-none
returns-clause-none c rests =
    let agent = c.args.agent in
    let due = subst (λ (b : Seen). IsDue b.site b.state agent) (sym c.self.view_is) c.requires in
    let begins = kept-begins _ _ _ _ c.self.invariant.kept in
    subst (λ (b : Seen). NoneIsNext b.state agent) c.self.view_is (none-at_once c.self.inside.setting c.self.inside.floor.state agent begins.sound
    (c.self.invariant.ways (c.rests_at_once.ensures.no_strays rests)) due (c.rests_at_once.ensures.none rests))

pub returns-clause-rest_cell : goal.returns-clause-rest_cell
returns-clause-rest_cell c rests =
    let agent = c.args.agent in
    let due = subst (λ (b : Seen). IsDue b.site b.state agent) (sym c.self.view_is) c.requires in
    let begins = kept-begins _ _ _ _ c.self.invariant.kept in
    subst (λ (b : Seen). IsRestCell b.site b.state agent (end_of b.state.paths agent)) c.self.view_is
    (rests-at_once c.self.inside.setting c.self.inside.floor.state agent begins.sound
    (c.self.invariant.ways (c.rests_at_once.ensures.no_strays rests)) due (c.rests_at_once.ensures.out_of_the_way rests))
