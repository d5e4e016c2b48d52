use Rattle.std.proofs.Common.{List, subst}
use mathlib.Core.List.{IsPrefix}
use Rattle.wh_event.specs.declared.entry.Entry.{Entry}
use Rattle.wh_desk.proofs.journal.Journal.knows.Goals as goal

pub returns-clause-begins : goal.returns-clause-begins
returns-clause-begins g c here = subst (λ (h : List Entry). IsPrefix c.args.pass.now.known h) c.front.ensures.history c.agrees.ensures.begins
