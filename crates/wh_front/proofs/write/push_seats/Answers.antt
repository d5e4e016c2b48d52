use Rattle.std.proofs.Common.{rules}
use Rattle.wh_front.proofs.SeatLoop.{seat_pushed}
use Rattle.wh_front.proofs.write.push_seats.Goals as goal

pub loop-seat-preserved : goal.loop-seat-preserved
loop-seat-preserved c =
    seat_pushed c.args.out.now.items c.loop-seat.out.items c.push_agent_line.new.out.items c.args.seats.now c.loop-seat.seat-index c.seat-item.result c.loop-seat-test.true c.seat-item.is
    c.loop-seat.invariant (search rules)
