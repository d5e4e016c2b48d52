use Rattle.std.proofs.Common.{◌≡◌, List, subst, arith}
use Rattle.std.specs.List.{All}
use Rattle.std.proofs.lemmas.List.{take_all}
use Rattle.std.proofs.lemmas.List.Elements.{All-more}
use Rattle.wh_crew.specs.declared.worker.Missed.{Missed}
use Rattle.wh_crew.proofs.threads.none_other.Goals as goal

pub loop-each-preserved : goal.loop-each-preserved
loop-each-preserved c =
    let P : Missed → Type 0 = λ n. n.other ≡ 0 in
    let i = c.loop-each.each-index in
    let all = c.args.missed.now in
    All-more P all i _ (omega arith) c.loop-each.invariant (c.has_other.ensures c.if-has_other.false)

pub returns : goal.returns
returns c here =
    let P : Missed → Type 0 = λ n. n.other ≡ 0 in
    subst (λ (l : List Missed). All P l) (take_all c.loop-each.each-index c.args.missed.now (omega arith)) c.loop-each.invariant
