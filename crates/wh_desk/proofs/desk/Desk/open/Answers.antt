use Rattle.std.proofs.Common.{◌≡◌, List, subst}
use Rattle.std.specs.List.{All}
use Rattle.wh_event.specs.declared.entry.Entry.{Entry}
use Rattle.wh_desk.specs.Lists.{Received, entries_of}
use Rattle.wh_desk.proofs.desk.Desk.open.Goals as goal

pub returns-in-Ok-clause-empty : goal.returns-in-Ok-clause-empty
returns-in-Ok-clause-empty g c =
    subst (λ (l : List Entry). All (λ (p : Received). p.list ≡ entries_of l p.caller) c.in-Ok.opened.1.items) c.requires.history c.in-Ok.ensures.lists
