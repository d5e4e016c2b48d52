use Rattle.std.proofs.Common.{arith}
use Rattle.std.specs.Arc.{arc_value}
use Rattle.wh_attend.specs.Guests.{IsClient}
use Rattle.wh_attend.proofs.Callers.{at_end}
use Rattle.wh_attend.proofs.clients.clients_of.Goals as goal

pub loop-number-preserved : goal.loop-number-preserved
loop-number-preserved g c = record {
  seat = c.client_of.ensures.seat;
  size = grind (arith, c.in_ok-push.ensures.len);
  each = at_end (IsClient (goal.F-post g c.args.make.now) c.args.options.now (arc_value c.args.grid.now) (arc_value c.args.bank.now) c.args.history.now c.args.counts.now) c.loop-number.clients.items _ _ _
      c.in_ok-push.ensures.items c.loop-number.invariant.size c.loop-number.invariant.each c.in_ok-client.ensures.ok;
}
