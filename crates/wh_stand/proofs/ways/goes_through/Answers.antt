use Rattle.std.proofs.Common.{arith, subst}
use Rattle.std.proofs.lemmas.Bool.{eqb-true, eq-eqb}
use Rattle.wh_stand.specs.Ways.{GoesPast}
use Rattle.wh_stand.proofs.Passing.{visiting-none, visiting-more, all-visited}
use Rattle.wh_stand.proofs.ways.goes_through.Goals as goal

pub loop-k-init : goal.loop-k-init
loop-k-init c = visiting-none c.args.stops.now c.args.path.now

pub loop-k-preserved : goal.loop-k-preserved
loop-k-preserved c =
    visiting-more c.args.stops.now c.args.path.now c.loop-k.k c.loop-k.visited c.go_past-visited.result c.loop-k.invariant
    (subst (λ here. GoesPast c.args.stops.now c.loop-k.visited here c.go_past-visited.result) c.at.ensures c.go_past-visited.ensures)

pub returns : goal.returns
returns c =
    let all = all-visited c.args.stops.now c.args.path.now c.loop-k.k c.loop-k.visited c.loop-k.invariant (omega arith) in
    (λ same. all.0 (eqb-true _ _ same), λ v. eq-eqb _ _ (all.1 v))
