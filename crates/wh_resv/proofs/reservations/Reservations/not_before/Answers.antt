use Rattle.std.proofs.Common.{ℕ, ◌≤◌, IfSome, IfNone, subst}
use Rattle.std.proofs.lemmas.Option.{IfSome_then}
use Rattle.wh_resv.specs.Others.{Others, MayRest}
use Rattle.wh_resv.proofs.reservations.Reservations.not_before.Goals as goal

pub returns-clause-some : goal.returns-clause-some
returns-clause-some c = subst (λ (o : Others). IfSome c.not_before.result (λ t. (k : ℕ) → MayRest o c.args.cell k → t ≤ k)) c.self.view_is (IfSome_then c.not_before.result c.not_before.ensures.some (λ t f k. (f k).0))

pub returns-clause-since : goal.returns-clause-since
returns-clause-since c = subst (λ (o : Others). IfSome c.not_before.result (λ t. (k : ℕ) → t ≤ k → MayRest o c.args.cell k)) c.self.view_is (IfSome_then c.not_before.result c.not_before.ensures.some (λ t f k. (f k).1))

pub returns-clause-none : goal.returns-clause-none
returns-clause-none c = subst (λ (o : Others). IfNone c.not_before.result ((k : ℕ) → MayRest o c.args.cell k → ⊥)) c.self.view_is c.not_before.ensures.none
