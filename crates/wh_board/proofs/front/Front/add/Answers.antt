use Rattle.std.proofs.Common.{◌≡◌, ◌++◌, ◌∷◌, [], sym, subst, ◌∙◌, ap, refl}
use Rattle.wh_board.specs.Pasts.{Past, Extends, grown, latest, past_of}
use Rattle.wh_board.proofs.Chains.{chain_more, extends_grown, latest_snoc}
use Rattle.wh_board.proofs.front.Front.add.Goals as goal

pub advance-requires-clause-longer : goal.advance-requires-clause-longer
advance-requires-clause-longer c =
    let log = c.again-seen.result.log in
    let here : latest log ≡ past_of c.args.book.now = ap (λ s. latest s.log) c.again-seen.ensures ∙ ap (λ k. k.past) c.self.view_is ∙ c.requires.past in
    subst (λ (p : Past). Extends (latest log) p) (sym c.plain-offer.ensures.1) (extends_grown _ _ c.args.entry.now here)

pub invariant_of-self : goal.invariant_of-self
invariant_of-self c =
    let next : Past = grown (past_of c.args.book.now) c.args.entry.now in
    let log : c.advance.new.seen.log ≡ c.self.inside.seen.log ++ next ∷ [] = c.if-not-advance.ensures.log ∙ rw (ap (λ s. s.log) c.again-seen.ensures, c.plain-offer.ensures.1) refl in
    let here : latest c.self.inside.seen.log ≡ past_of c.args.book.now = ap (λ k. k.past) c.self.view_is ∙ c.requires.past in
    chain_more _ _ _ next log c.self.invariant.0 c.self.invariant.1 (extends_grown _ _ c.args.entry.now here)

pub returns-clause-past : goal.returns-clause-past
returns-clause-past c =
    let next : Past = grown (past_of c.args.book.now) c.args.entry.now in
    let log : c.advance.new.seen.log ≡ c.self.inside.seen.log ++ next ∷ [] = c.if-not-advance.ensures.log ∙ rw (ap (λ s. s.log) c.again-seen.ensures, c.plain-offer.ensures.1) refl in
    ap latest log ∙ latest_snoc c.self.inside.seen.log next ∙ ap (λ (p : Past). grown p c.args.entry.now) (sym c.requires.past)
