use Rattle.std.proofs.Common.{◌≡◌, ℕ, List, ◌++◌, ◌∷◌, codes, decimal, ap, sym, ◌∙◌, subst}
use Rattle.std.specs.Prelude.{IfSome}
use Rattle.std.proofs.lemmas.Option.{IfSome_then}
use Rattle.wh_log.specs.Spelling.{entry_line}
use Rattle.wh_log.proofs.usual.usual.Goals as goal

pub returns-clause-text : goal.returns-clause-text
returns-clause-text c =
    let caller = c.in_ok-caller.caller in
    let whole : decimal caller ++ (codes " tick = clock " ++ c.in_ok-rest.rest.now) ≡ c.args.text.now =
    ap (λ (l : List ℕ). decimal caller ++ 32 ∷ l) (sym c.in_ok-rest.ensures) ∙ sym c.in_ok-caller.ensures.0 in
    subst (λ (t : List ℕ). IfSome c.tick.result (λ read. t ≡ entry_line read.0 ++ 10 ∷ read.1.now)) whole c.tick.ensures.text

pub returns-in-Some-clause-keeps : goal.returns-in-Some-clause-keeps
returns-in-Some-clause-keeps c = IfSome_then c.request.result c.request.ensures.keeps (λ read keeps most two. keeps most)

pub returns-clause-keeps : goal.returns-clause-keeps
returns-clause-keeps c = IfSome_then c.tick.result c.tick.ensures.keeps (λ read keeps most two. keeps most)
