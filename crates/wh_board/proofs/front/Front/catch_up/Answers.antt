use Rattle.std.proofs.Common.{◌≡◌, ◌++◌, ◌∷◌, [], sym, subst, ◌∙◌, ap, refl}
use Rattle.wh_board.specs.Pasts.{Past, Extends, latest, past_of}
use Rattle.wh_board.proofs.Chains.{chain_more, latest_snoc}
use Rattle.wh_board.proofs.front.Front.catch_up.Goals as goal

pub invariant_of-self : goal.invariant_of-self
invariant_of-self c =
    let next : Past = past_of c.args.book.now in
    let log : c.advance.new.seen.log ≡ c.self.inside.seen.log ++ next ∷ [] = c.if-not-advance.ensures.log ∙ rw (ap (λ s. s.log) c.again-seen.ensures, c.plain-offer.ensures.1) refl in
    let more : Extends (latest c.self.inside.seen.log) next = subst (λ (p : Past). Extends p next) (sym (ap (λ k. k.past) c.self.view_is)) c.requires.longer in
    chain_more _ _ _ next log c.self.invariant.0 c.self.invariant.1 more

pub returns-clause-past : goal.returns-clause-past
returns-clause-past c =
    let next : Past = past_of c.args.book.now in
    let log : c.advance.new.seen.log ≡ c.self.inside.seen.log ++ next ∷ [] = c.if-not-advance.ensures.log ∙ rw (ap (λ s. s.log) c.again-seen.ensures, c.plain-offer.ensures.1) refl in
    ap latest log ∙ latest_snoc c.self.inside.seen.log next
