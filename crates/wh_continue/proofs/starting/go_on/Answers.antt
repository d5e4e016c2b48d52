use Rattle.std.proofs.Common.{List, subst}
use Rattle.std.proofs.lemmas.List.Elements.{All-from_recursion}
use Rattle.wh_event.specs.declared.entry.Entry.{Entry}
use Rattle.wh_log.specs.Logs.{IsSlots}
use Rattle.wh_continue.specs.Starting.{AllOwn}
use Rattle.wh_continue.proofs.Slots.{slots_run}
use Rattle.wh_continue.proofs.starting.go_on.Goals as goal

pub returns-clause-slots : goal.returns-clause-slots
returns-clause-slots c =
    let book = c.args.resumed.book in
    slots_run book.site book.opening book.history book.state c.history.ensures.run
    (subst (λ (entries : List Entry). AllOwn entries) c.history.ensures.value c.in_default.ensures.none)
    (All-from_recursion IsSlots book.opening.slots c.requires.slots)
