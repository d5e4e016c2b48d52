use Rattle.std.proofs.Common.{arith}
use Rattle.wh_service.proofs.Playing.{member_added}
use Rattle.wh_service.proofs.fleet.members.Goals as goal

pub loop-k-preserved : goal.loop-k-preserved
loop-k-preserved g c = record {
  seat = c.member.ensures.seat;
  size = grind (arith, c.in_ok-push.ensures.len);
  members = member_added c.loop-k.row.items _ c.in_ok-planner.planner c.in_ok-push.ensures.items c.loop-k.invariant.members c.in_ok-planner.ensures.member;
}
