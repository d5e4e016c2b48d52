use Rattle.std.proofs.Common.{◌≡◌, ◌+◌, [], ◌∷◌, ◌++◌, length, take, ap, sym, ◌∙◌, arith, subst, List}
use Rattle.std.proofs.lemmas.List.{take_more}
use Rattle.wh_event.specs.declared.entry.Entry.{Entry}
use Rattle.wh_desk.specs.Earlier.{Recalls}
use Rattle.wh_desk.proofs.earlier.take_all.Goals as goal

pub loop-entry-preserved : goal.loop-entry-preserved
loop-entry-preserved c =
    let names = c.args.made.now.cells.names in
    let callers = length c.args.made.now.owns.items in
    let h = c.args.history.now in
    let i = c.loop-entry.entry-index in
    let e = c.entry-item.result in
    let more : take (i + 1) h ≡ take i h ++ e ∷ [] = take_more h i e (omega arith) ∙ ap (λ (d : Entry). take i h ++ d ∷ []) (sym c.entry-item.is) in
    subst (λ (l : List Entry). Recalls names callers l c.take_up.new.made) (sym more) (c.in-Ok.ensures.ok names callers (take i h) c.loop-entry.invariant)
