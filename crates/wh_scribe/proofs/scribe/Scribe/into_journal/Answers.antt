use Rattle.std.proofs.Common.{◌≡◌, true, ◌∙◌}
use Rattle.wh_scribe.proofs.Keeping.{holds_also}
use Rattle.wh_scribe.proofs.scribe.Scribe.into_journal.Goals as goal
use Rattle.wh_scribe.proofs.scribe.Scribe.into_journal.Goals.{then-failed, else-failed}

pub returns-clause-holds : goal.returns-clause-holds
returns-clause-holds g c =
    let page = c.page.inside in
    let too : page.failed ≡ true → c.if-failed.result ≡ true = elim c.if-failed.branch [ then-failed w ↦ λ is. w.result-is ∙ is | else-failed w ↦ λ is. absurd (cc (is, w.if-failed.false)) ] in
    holds_also page.failed c.if-failed.result g.S.JournalName.start (g.J.Journal.contents page.journal) page.front.past.history page.written too c.page.invariant.holds
