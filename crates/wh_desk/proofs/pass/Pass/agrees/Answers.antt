use Rattle.std.proofs.Common.{◌≡◌, List, arith, ap, sym, subst, ◌∙◌, length}
use mathlib.Core.List.{IsPrefix}
use Rattle.wh_event.specs.declared.entry.Entry.{Entry}
use Rattle.wh_desk.specs.Lists.{entries_of}
use Rattle.wh_desk.proofs.Beginnings.{begins_longer, entries_same, one_extends}
use Rattle.wh_desk.proofs.pass.Pass.agrees.Goals as goal

pub returns-clause-whole : goal.returns-clause-whole
returns-clause-whole g c =
    let p = c.args.self.now in
    let front = c.self.inside.front.past.history in
    let mine : p.list ≡ entries_of front p.caller = sym (ap (λ v. v.list) c.self.view_is) ∙ c.self.invariant.all ∙ ap (λ v. entries_of front v.caller) c.self.view_is in
    mine ∙ entries_same front c.args.history.now.past.history p.caller (one_extends _ _ c.meets.ensures) (omega (arith, ap length mine, c.requires.many))

pub returns-clause-begins : goal.returns-clause-begins
returns-clause-begins g c =
    let front = c.self.inside.front.past.history in
    let known : c.args.self.now.known ≡ front = sym (ap (λ v. v.known) c.self.view_is) in
    subst (λ (l : List Entry). IsPrefix l c.args.history.now.past.history) (sym known)
    (begins_longer front c.args.history.now.past.history (one_extends _ _ c.meets.ensures) (omega (arith, ap length known, c.requires.long)))
