use Rattle.std.proofs.Common.{◌≡◌, subst, arith}
use Rattle.wh_detours.specs.Barred.{IsOnWay}
use Rattle.wh_detours.proofs.Ways.{way_start, way_left, way_on, way_shut, clear_within}
use Rattle.wh_detours.proofs.barred.is_leg_barred.Goals as goal

pub loop-left-init : goal.loop-left-init
loop-left-init c = record {
  few = omega arith;
  way = way_start c.args.grid.now c.args.others.now c.args.loc c.args.from c.args.sight c.estimate-whole.result c.requires c.estimate-whole.ensures (omega arith);
}

pub nearer-requires-clause-here : goal.nearer-requires-clause-here
nearer-requires-clause-here c =
    let few = c.loop-left.invariant.few in
    way_left c.args.grid.now c.args.others.now c.args.loc c.args.from c.loop-left.cell c.args.sight c.estimate-whole.result c.loop-left.left c.requires (omega arith) c.loop-left.invariant.way

pub loop-left-preserved : goal.loop-left-preserved
loop-left-preserved c =
    let few = c.loop-left.invariant.few in
    record {
      few = omega arith;
      way = way_on c.args.grid.now c.args.others.now c.args.loc c.args.from c.loop-left.cell c.in-Some.next c.args.sight c.estimate-whole.result c.loop-left.left c.requires (omega arith) c.loop-left.invariant.way c.in-Some.ensures.some;
    }

pub returns-in_default-clause-shut : goal.returns-in_default-clause-shut
returns-in_default-clause-shut c = λ yes.
    let few = c.loop-left.invariant.few in
    way_shut c.args.grid.now c.args.others.now c.args.loc c.args.from c.loop-left.cell c.args.sight c.estimate-whole.result c.loop-left.left c.requires c.estimate-whole.ensures (omega arith) (omega arith) few c.loop-left.invariant.way c.in_default.ensures.none

pub returns-clause-clear : goal.returns-clause-clear
returns-clause-clear c = λ no.
    let end : c.loop-left.left ≡ 0 = omega arith in
    clear_within c.args.grid.now c.args.others.now c.args.loc c.args.from c.loop-left.cell c.args.sight c.estimate-whole.result c.requires c.estimate-whole.ensures
    (subst (λ k. IsOnWay c.args.grid.now c.args.others.now c.args.loc c.args.from c.args.sight.field.now.cell c.loop-left.cell c.estimate-whole.result k) end c.loop-left.invariant.way)
