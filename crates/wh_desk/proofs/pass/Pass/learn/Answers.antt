use Rattle.std.proofs.Common.{◌≡◌, List, ap, sym, subst, ◌∙◌, length}
use Rattle.wh_event.specs.declared.entry.Entry.{Entry}
use Rattle.wh_desk.specs.Kept.{list_of}
use Rattle.wh_desk.specs.Lists.{IsRunFrom, entries_of}
use Rattle.wh_desk.proofs.Receipts.{pass_learns}
use Rattle.wh_desk.proofs.pass.Pass.learn.Goals as goal

pub invariant_of-self : goal.invariant_of-self
invariant_of-self g c =
    let there : c.again.result.past.history ≡ c.args.history.now.past.history = ap (λ k. k.past.history) c.again.ensures in
    let mine : list_of c.self.inside.held.items ≡ entries_of c.args.history.now.past.history c.self.inside.caller = ap (λ v. v.list) c.self.view_is ∙ c.requires.whole ∙ ap (λ v. entries_of c.args.history.now.past.history v.caller) (sym c.self.view_is) in
    pass_learns c.self.invariant c.again.result c.args.long (mine ∙ ap (λ (h : List Entry). entries_of h c.self.inside.caller) (sym there)) (ap (λ k. k.book) c.again.ensures ∙ c.requires.book)
    (subst (λ (h : List Entry). IsRunFrom g.N.DeskName.origin h) (sym there) c.requires.run) (c.requires.long ∙ ap length (sym there))
