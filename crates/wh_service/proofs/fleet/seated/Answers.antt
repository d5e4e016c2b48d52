use Rattle.std.proofs.Common.{arith}
use Rattle.std.specs.Arc.{arc_value}
use Rattle.wh_service.proofs.Lasting.{seat_added, unseated}
use Rattle.wh_service.proofs.fleet.seated.Goals as goal

pub returns-in-Err-clause-fault : goal.returns-in-Err-clause-fault
returns-in-Err-clause-fault g c = unseated c.args.slots.now c.loop-k.k c.in-Err.trouble c.loop-k-test.true c.in-Err.ensures.fault

pub loop-k-preserved : goal.loop-k-preserved
loop-k-preserved g c = record {
  seat = c.member.ensures.seat;
  size = grind (arith, c.in_ok-push-in-Ok.ensures.len);
  members = seat_added (goal.F-post g c.args.make.now) c.args.fleet.now (arc_value c.args.grid.now) (arc_value c.args.bank.now) c.args.slots.now c.loop-k.k
      c.loop-k.row.items _ c.in-Ok.planner c.loop-k-test.true c.in_ok-push-in-Ok.ensures.items c.loop-k.invariant.members c.in-Ok.ensures.member;
}
