use Rattle.std.proofs.Common.{arith}
use Rattle.wh_session.specs.declared.fault.Round.TheVariants.{More, Served, Ended, Torn, Over}
use Rattle.wh_session.proofs.Proceeding.{start_from, proceed_from, finish_from, stop_from, endless_from, opens_more, opens_served, whole_more, whole_served}
use Rattle.wh_session.proofs.session.serve_all.Goals as goal

pub loop-init : goal.loop-init
loop-init g c = record {
  follows = start_from g.M.Machine.serves g.M.Machine.halts g.K.Keeper.is_safe g.K.Keeper.keeps g.K.Keeper.leaves g.met.K.Keeper.kept_safe g.met.K.Keeper.keeps_none g.met.K.Keeper.keeps_both g.M.Machine.serves_last g.K.Keeper.single g.M.Machine.may_end g.M.Machine.stands g.M.Machine.says g.M.Machine.logs c.args.lines.now c.args.machine.now (g.W.Write.contents c.args.writer.now) (g.K.Keeper.holds c.args.keeper.now) c.requires.safe;
  before = omega arith;
  fine = c.requires.open;
  safe = c.requires.safe;
  stands = c.requires.stands;
}

pub returns-then-not-to_end-clause-ok : goal.returns-then-not-to_end-clause-ok
returns-then-not-to_end-clause-ok g c =
    finish_from g.M.Machine.serves g.M.Machine.halts g.K.Keeper.is_safe g.K.Keeper.keeps g.K.Keeper.leaves g.met.K.Keeper.kept_safe g.met.K.Keeper.keeps_none g.met.K.Keeper.keeps_both g.M.Machine.serves_last g.K.Keeper.single g.M.Machine.may_end g.M.Machine.stands g.M.Machine.says g.M.Machine.logs c.args.lines.now c.loop.lines c.args.machine.now c.loop.machine (g.W.Write.contents c.args.writer.now) (g.W.Write.contents c.loop.writer) (g.K.Keeper.holds c.args.keeper.now) (g.K.Keeper.holds c.loop.keeper) c.loop.counter c.loop.invariant.follows c.serve_part.new.lines c.serve_part.new.machine (g.W.Write.contents c.serve_part.new.writer) (g.K.Keeper.holds c.serve_part.new.keeper) Served 18446744073709551615 (omega (arith, c.loop-test.true)) (rw c.in-Ok-Served.field-0-is at c.in-Ok-Served.ensures.ok)

pub returns-in-Ok-Ended-clause-ok : goal.returns-in-Ok-Ended-clause-ok
returns-in-Ok-Ended-clause-ok g c =
    finish_from g.M.Machine.serves g.M.Machine.halts g.K.Keeper.is_safe g.K.Keeper.keeps g.K.Keeper.leaves g.met.K.Keeper.kept_safe g.met.K.Keeper.keeps_none g.met.K.Keeper.keeps_both g.M.Machine.serves_last g.K.Keeper.single g.M.Machine.may_end g.M.Machine.stands g.M.Machine.says g.M.Machine.logs c.args.lines.now c.loop.lines c.args.machine.now c.loop.machine (g.W.Write.contents c.args.writer.now) (g.W.Write.contents c.loop.writer) (g.K.Keeper.holds c.args.keeper.now) (g.K.Keeper.holds c.loop.keeper) c.loop.counter c.loop.invariant.follows c.serve_part.new.lines c.serve_part.new.machine (g.W.Write.contents c.serve_part.new.writer) (g.K.Keeper.holds c.serve_part.new.keeper) Ended 18446744073709551615 (omega (arith, c.loop-test.true)) (rw c.in-Ok-Ended.field-0-is at c.in-Ok-Ended.ensures.ok)

pub returns-in-Ok-Torn-clause-ok : goal.returns-in-Ok-Torn-clause-ok
returns-in-Ok-Torn-clause-ok g c =
    finish_from g.M.Machine.serves g.M.Machine.halts g.K.Keeper.is_safe g.K.Keeper.keeps g.K.Keeper.leaves g.met.K.Keeper.kept_safe g.met.K.Keeper.keeps_none g.met.K.Keeper.keeps_both g.M.Machine.serves_last g.K.Keeper.single g.M.Machine.may_end g.M.Machine.stands g.M.Machine.says g.M.Machine.logs c.args.lines.now c.loop.lines c.args.machine.now c.loop.machine (g.W.Write.contents c.args.writer.now) (g.W.Write.contents c.loop.writer) (g.K.Keeper.holds c.args.keeper.now) (g.K.Keeper.holds c.loop.keeper) c.loop.counter c.loop.invariant.follows c.serve_part.new.lines c.serve_part.new.machine (g.W.Write.contents c.serve_part.new.writer) (g.K.Keeper.holds c.serve_part.new.keeper) Torn 18446744073709551615 (omega (arith, c.loop-test.true)) (rw c.in-Ok-Torn.field-0-is at c.in-Ok-Torn.ensures.ok)

pub returns-in-Ok-Over-clause-ok : goal.returns-in-Ok-Over-clause-ok
returns-in-Ok-Over-clause-ok g c =
    finish_from g.M.Machine.serves g.M.Machine.halts g.K.Keeper.is_safe g.K.Keeper.keeps g.K.Keeper.leaves g.met.K.Keeper.kept_safe g.met.K.Keeper.keeps_none g.met.K.Keeper.keeps_both g.M.Machine.serves_last g.K.Keeper.single g.M.Machine.may_end g.M.Machine.stands g.M.Machine.says g.M.Machine.logs c.args.lines.now c.loop.lines c.args.machine.now c.loop.machine (g.W.Write.contents c.args.writer.now) (g.W.Write.contents c.loop.writer) (g.K.Keeper.holds c.args.keeper.now) (g.K.Keeper.holds c.loop.keeper) c.loop.counter c.loop.invariant.follows c.serve_part.new.lines c.serve_part.new.machine (g.W.Write.contents c.serve_part.new.writer) (g.K.Keeper.holds c.serve_part.new.keeper) Over 18446744073709551615 (omega (arith, c.loop-test.true)) (rw c.in-Ok-Over.field-0-is at c.in-Ok-Over.ensures.ok)

pub loop-preserved-in-Ok-More : goal.loop-preserved-in-Ok-More
loop-preserved-in-Ok-More g c =
    let o = rw c.in-Ok-More.field-0-is at c.in-Ok-More.ensures.ok in
    record {
      follows = proceed_from g.M.Machine.serves g.M.Machine.halts g.K.Keeper.is_safe g.K.Keeper.keeps g.K.Keeper.leaves g.met.K.Keeper.kept_safe g.met.K.Keeper.keeps_none g.met.K.Keeper.keeps_both g.M.Machine.serves_last g.K.Keeper.single g.M.Machine.may_end g.M.Machine.stands g.M.Machine.says g.M.Machine.logs c.args.lines.now c.loop.lines c.args.machine.now c.loop.machine (g.W.Write.contents c.args.writer.now) (g.W.Write.contents c.loop.writer) (g.K.Keeper.holds c.args.keeper.now) (g.K.Keeper.holds c.loop.keeper) c.loop.counter c.loop.invariant.follows c.serve_part.new.lines c.serve_part.new.machine (g.W.Write.contents c.serve_part.new.writer) (g.K.Keeper.holds c.serve_part.new.keeper) More (opens_more g.M.Machine.serves_last c.serve_part.new.lines) (whole_more g.M.Machine.serves_last) o;
      before = omega (arith, c.loop.invariant.before, c.in-Ok-More.ensures.reads);
      fine = c.in-Ok-More.ensures.open;
      safe = c.in-Ok-More.ensures.safe;
      stands = let t = o c.loop.invariant.stands.0 c.loop.invariant.stands.1 in (t.0, t.1);
    }

pub loop-preserved : goal.loop-preserved
loop-preserved g c =
    let o = rw c.in-Ok-Served.field-0-is at c.in-Ok-Served.ensures.ok in
    record {
      follows = proceed_from g.M.Machine.serves g.M.Machine.halts g.K.Keeper.is_safe g.K.Keeper.keeps g.K.Keeper.leaves g.met.K.Keeper.kept_safe g.met.K.Keeper.keeps_none g.met.K.Keeper.keeps_both g.M.Machine.serves_last g.K.Keeper.single g.M.Machine.may_end g.M.Machine.stands g.M.Machine.says g.M.Machine.logs c.args.lines.now c.loop.lines c.args.machine.now c.loop.machine (g.W.Write.contents c.args.writer.now) (g.W.Write.contents c.loop.writer) (g.K.Keeper.holds c.args.keeper.now) (g.K.Keeper.holds c.loop.keeper) c.loop.counter c.loop.invariant.follows c.serve_part.new.lines c.serve_part.new.machine (g.W.Write.contents c.serve_part.new.writer) (g.K.Keeper.holds c.serve_part.new.keeper) Served (opens_served g.M.Machine.serves_last c.serve_part.new.lines) (whole_served g.M.Machine.serves_last) o;
      before = omega (arith, c.loop.invariant.before, c.in-Ok-Served.ensures.reads);
      fine = c.in-Ok-Served.ensures.open;
      safe = c.in-Ok-Served.ensures.safe;
      stands = let t = o c.loop.invariant.stands.0 c.loop.invariant.stands.1 in (t.0, t.1);
    }

pub returns-in-Err-clause-fault : goal.returns-in-Err-clause-fault
returns-in-Err-clause-fault g c =
    stop_from g.M.Machine.serves g.M.Machine.halts g.K.Keeper.is_safe g.K.Keeper.keeps g.K.Keeper.leaves g.met.K.Keeper.kept_safe g.met.K.Keeper.keeps_none g.met.K.Keeper.keeps_both g.M.Machine.serves_last g.K.Keeper.single g.M.Machine.may_end g.M.Machine.stands g.M.Machine.says g.M.Machine.logs c.args.lines.now c.loop.lines c.args.machine.now c.loop.machine (g.W.Write.contents c.args.writer.now) (g.W.Write.contents c.loop.writer) (g.K.Keeper.holds c.args.keeper.now) (g.K.Keeper.holds c.loop.keeper) c.loop.counter c.loop.invariant.follows c.in-Err.fault c.serve_part.new.lines c.serve_part.new.machine (g.W.Write.contents c.serve_part.new.writer) (g.K.Keeper.holds c.serve_part.new.keeper) c.loop.invariant.before c.loop.invariant.fine c.in-Err.ensures.fault

pub returns-clause-fault : goal.returns-clause-fault
returns-clause-fault g c = endless_from g.M.Machine.serves g.M.Machine.halts g.K.Keeper.is_safe g.K.Keeper.keeps g.K.Keeper.leaves g.met.K.Keeper.kept_safe g.met.K.Keeper.keeps_none g.met.K.Keeper.keeps_both g.M.Machine.serves_last g.K.Keeper.single g.M.Machine.may_end g.M.Machine.stands g.M.Machine.says g.M.Machine.logs c.args.lines.now c.loop.lines c.args.machine.now c.loop.machine (g.W.Write.contents c.args.writer.now) (g.W.Write.contents c.loop.writer) (g.K.Keeper.holds c.args.keeper.now) (g.K.Keeper.holds c.loop.keeper) c.loop.counter c.loop.invariant.follows c.loop-test.false
