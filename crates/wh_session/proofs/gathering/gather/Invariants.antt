use Rattle.std.proofs.Common.{◌≡◌, ◌≤◌, false}
use Rattle.std.specs.Io.KnownBytes.{Keeps}
use Rattle.wh_session.specs.Machines.{SomeStands}
use Rattle.wh_session.proofs.Following.{FollowingFrom}
use Rattle.wh_session.proofs.gathering.gather.Given as goal

abbrev pub invariant-loop : goal.invariant-loop
invariant-loop g l = record {
  follows : FollowingFrom g.M.Machine.stands g.M.Machine.serves g.M.Machine.halts g.M.Machine.says g.M.Machine.logs g.M.Machine.serves_last l.fn.single l.fn.lines l.lines l.fn.machine l.machine l.counter;
  before : l.fn.lines.reads ≤ l.lines.reads;
  fine : l.lines.failed ≡ false;
  room : g.M.Machine.has_room l.machine;
  stands : SomeStands g.M.Machine.stands l.machine;
  flushed : Keeps (g.W.Write.contents l.fn.writer) (g.W.Write.contents l.writer);
}
