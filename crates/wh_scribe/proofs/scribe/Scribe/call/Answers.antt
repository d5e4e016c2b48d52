use Rattle.std.proofs.Common.{◌+◌, List, subst}
use Rattle.wh_event.specs.declared.entry.Entry.{Entry}
use Rattle.wh_scribe.specs.Keeping.{KeepsFirst}
use Rattle.wh_scribe.proofs.Keeping.{kept_of}
use Rattle.wh_scribe.proofs.scribe.Scribe.call.Goals as goal

pub returns-then-keeps-clause-kept : goal.returns-then-keeps-clause-kept
returns-then-keeps-clause-kept g c =
    let receipt = c.in-Ok.receipt in
    let first = subst (λ (h : List Entry). KeepsFirst (λ x. g.J.Journal.synced x) g.S.JournalName.start h (receipt.position + 1)) c.front.ensures.history (c.keeps.ensures c.if-keeps.true) in
    kept_of (λ x. g.J.Journal.synced x) g.S.JournalName.start g.N.DeskName.origin c.enter-outcome.new.pass.known receipt.position receipt.entry c.in-Ok.ensures.run c.in-Ok.ensures.stands first
