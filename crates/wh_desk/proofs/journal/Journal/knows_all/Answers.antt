use Rattle.std.proofs.Common.{◌≡◌, true, List, refl, subst, sym, ◌∙◌, get_or, arith}
use Rattle.std.specs.List.{All}
use Rattle.std.proofs.lemmas.List.{take_all}
use Rattle.std.proofs.lemmas.List.Elements.{All-more}
use mathlib.Core.List.{IsPrefix}
use Rattle.wh_desk.specs.Lists.{Received, entries_of, is_current}
use Rattle.wh_desk.proofs.journal.Journal.knows_all.Goals as goal

pub loop-each-preserved : goal.loop-each-preserved
loop-each-preserved g c =
    let h = c.args.self.now.history in
    let P : Received → Type 0 = λ q. q.list ≡ entries_of h q.caller in
    let Q : Received → Type 0 = λ q. is_current h q ≡ true in
    let B : Received → Type 0 = λ q. IsPrefix q.known h in
    let x = c.each-item.result in
    let i = c.loop-each.each-index in
    let all = c.args.passes.now in
    let is : x ≡ get_or all i x = c.each-item.is in (
      All-more P all i x (omega arith) c.loop-each.invariant.0 (subst P is (c.knows.ensures.whole c.if-not-knows.false)),
      All-more Q all i x (omega arith) c.loop-each.invariant.1 (subst Q is (sym c.knows.ensures.current ∙ c.if-not-knows.false)),
      All-more B all i x (omega arith) c.loop-each.invariant.2 (subst B is (c.knows.ensures.begins c.if-not-knows.false)),
    )

pub returns-clause-whole : goal.returns-clause-whole
returns-clause-whole g c here =
    let P : Received → Type 0 = λ q. q.list ≡ entries_of c.args.self.now.history q.caller in
    subst (λ (l : List Received). All P l) (take_all c.loop-each.each-index c.args.passes.now (omega arith)) c.loop-each.invariant.0

pub returns-clause-current : goal.returns-clause-current
returns-clause-current g c =
    let Q : Received → Type 0 = λ q. is_current c.args.self.now.history q ≡ true in (
      (λ yes. subst (λ (l : List Received). All Q l) (take_all c.loop-each.each-index c.args.passes.now (omega arith)) c.loop-each.invariant.1),
      (λ all. refl),
    )

pub returns-clause-begin : goal.returns-clause-begin
returns-clause-begin g c here =
    let B : Received → Type 0 = λ q. IsPrefix q.known c.args.self.now.history in
    subst (λ (l : List Received). All B l) (take_all c.loop-each.each-index c.args.passes.now (omega arith)) c.loop-each.invariant.2
