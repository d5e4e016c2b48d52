use Rattle.std.proofs.Common.{ap, sym, subst, ◌<◌, List, All}
use Rattle.wh_event.specs.declared.entry.Entry.{Entry}
use Rattle.wh_book.specs.Drafts.{HasWaysForAll}
use Rattle.wh_board.specs.Pasts.{Origin}
use Rattle.wh_desk.proofs.journal.Journal.into_history.Goals as goal

pub returns-clause-served : goal.returns-clause-served
returns-clause-served g c ways =
    c.history-run.ensures.served (subst (λ (o : Origin). HasWaysForAll o.site o.opening) (sym c.self.invariant.origin_is) ways)

pub returns-clause-callers : goal.returns-clause-callers
returns-clause-callers g c =
    subst (λ (entries : List Entry). All (λ entry. entry.caller < g.N.DeskName.callers) entries) (ap (λ v. v.history) c.self.view_is) c.self.invariant.callers_within
