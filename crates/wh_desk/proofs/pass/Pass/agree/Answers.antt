use Rattle.std.proofs.Common.{◌≡◌, ap, sym, ◌∙◌}
use Rattle.wh_desk.specs.Lists.{entries_of}
use Rattle.wh_desk.proofs.Beginnings.{agreed, receipts_agree, one_extends}
use Rattle.wh_desk.proofs.pass.Pass.agree.Goals as goal

pub returns-clause-one_run : goal.returns-clause-one_run
returns-clause-one_run g c =
    let one = c.args.self.now in
    let two = c.args.other.now in
    let mine : one.list ≡ entries_of c.self.inside.front.past.history one.caller = sym (ap (λ v. v.list) c.self.view_is) ∙ c.self.invariant.all ∙ ap (λ v. entries_of c.self.inside.front.past.history v.caller) c.self.view_is in
    let theirs : two.list ≡ entries_of c.other.inside.front.past.history two.caller = sym (ap (λ v. v.list) c.other.view_is) ∙ c.other.invariant.all ∙ ap (λ v. entries_of c.other.inside.front.past.history v.caller) c.other.view_is in
    agreed c.self.inside.front.past.history c.other.inside.front.past.history c.self.invariant.run c.other.invariant.run (one_extends _ _ c.meets.ensures) mine theirs
    (sym (ap (λ v. v.known) c.self.view_is)) (sym (ap (λ v. v.known) c.other.view_is))

pub returns-clause-one_entry : goal.returns-clause-one_entry
returns-clause-one_entry g c =
    let one = c.args.self.now in
    let two = c.args.other.now in
    let mine : one.list ≡ entries_of c.self.inside.front.past.history one.caller = sym (ap (λ v. v.list) c.self.view_is) ∙ c.self.invariant.all ∙ ap (λ v. entries_of c.self.inside.front.past.history v.caller) c.self.view_is in
    let theirs : two.list ≡ entries_of c.other.inside.front.past.history two.caller = sym (ap (λ v. v.list) c.other.view_is) ∙ c.other.invariant.all ∙ ap (λ v. entries_of c.other.inside.front.past.history v.caller) c.other.view_is in
    receipts_agree c.self.inside.front.past.history c.other.inside.front.past.history one.caller two.caller one.list two.list (one_extends _ _ c.meets.ensures) mine theirs
