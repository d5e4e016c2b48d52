use Rattle.std.proofs.Common.{◌≡◌, ◌≤◌, false}
use Rattle.wh_session.specs.Machines.{SomeStands}
use Rattle.wh_session.proofs.Proceeding.{ProceedingFrom}
use Rattle.wh_session.proofs.session.serve_all.Given as goal

abbrev pub invariant-loop : goal.invariant-loop
invariant-loop g l = record {
  follows : ProceedingFrom g.M.Machine.serves g.K.Keeper.keeps g.K.Keeper.single g.M.Machine.stands l.fn.lines l.lines l.fn.machine l.machine (g.W.Write.contents l.fn.writer) (g.W.Write.contents l.writer) (g.K.Keeper.holds l.fn.keeper) (g.K.Keeper.holds l.keeper) l.counter;
  before : l.fn.lines.reads ≤ l.lines.reads;
  fine : l.lines.failed ≡ false;
  safe : g.K.Keeper.is_safe (g.K.Keeper.holds l.keeper);
  stands : SomeStands g.M.Machine.stands l.machine;
}
