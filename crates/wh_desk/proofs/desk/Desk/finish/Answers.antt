use Rattle.std.proofs.Common.{◌≡◌, List, ap, sym, subst, ◌∙◌, length}
use Rattle.std.specs.List.{All}
use Rattle.wh_desk.specs.Lists.{Received, entries_of}
use Rattle.wh_desk.specs.Calls.{AllBegin}
use Rattle.wh_event.specs.declared.entry.Entry.{Entry}
use Rattle.wh_desk.proofs.Counts.{lengths_add}
use Rattle.wh_desk.proofs.desk.Desk.finish.Goals as goal

pub returns-clause-lengths : goal.returns-clause-lengths
returns-clause-lengths g c =
    let h = c.into_inner-journal.result.history in
    let P : Received → Type 0 = λ p. p.list ≡ entries_of h p.caller in
    let lists : All P c.args.passes.items = subst (λ (l : List Received). All P l) c.as_slice.ensures.value (c.knows_all.ensures.whole c.if-not-knows_all.false) in
    lengths_add h g.N.DeskName.callers c.args.passes.items c.requires.count c.requires.each lists c.into_history.ensures.callers ∙ ap length (sym c.into_history.ensures.history)

pub returns-clause-lists : goal.returns-clause-lists
returns-clause-lists g c =
    let lists = subst (λ (l : List Received). All (λ p. p.list ≡ entries_of c.into_inner-journal.result.history p.caller) l) c.as_slice.ensures.value (c.knows_all.ensures.whole c.if-not-knows_all.false) in
    subst (λ (h : List Entry). All (λ (p : Received). p.list ≡ entries_of h p.caller) c.args.passes.items) (sym c.into_history.ensures.history) lists

pub returns-clause-begin : goal.returns-clause-begin
returns-clause-begin g c =
    let begin = subst (λ (l : List Received). AllBegin c.into_inner-journal.result.history l) c.as_slice.ensures.value (c.knows_all.ensures.begin c.if-not-knows_all.false) in
    subst (λ (h : List Entry). AllBegin h c.args.passes.items) (sym c.into_history.ensures.history) begin
