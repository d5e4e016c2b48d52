use Rattle.std.proofs.Common.{◌≡◌, ◌∙◌, true, false, sym, subst, arith}
use Rattle.std.proofs.KnownBytes.{Keeps-refl, Keeps-trans}
use Rattle.wh_text.specs.Lines.{IsLine}
use Rattle.wh_session.proofs.Following.{from_start, from_more, from_single, from_rest, from_torn, from_none, from_halt, from_full, from_served, from_endless}
use Rattle.wh_session.proofs.gathering.gather.Goals as goal

pub loop-init : goal.loop-init
loop-init g c = record {
  follows = from_start g.M.Machine.stands g.M.Machine.serves g.M.Machine.halts g.M.Machine.says g.M.Machine.logs g.M.Machine.serves_last c.args.single c.args.lines.now c.args.machine.now c.clear.new.self c.clear.ensures.clear;
  before = omega arith;
  fine = c.requires.open;
  room = c.clear.ensures.room;
  stands = let n = c.clear.ensures.clear c.requires.stands.0 c.requires.stands.1 in (c.requires.stands.0, n.0);
  flushed = Keeps-refl (g.W.Write.contents c.args.writer.now);
}

pub returns-in-Ok-Ended-clause-ok : goal.returns-in-Ok-Ended-clause-ok
returns-in-Ok-Ended-clause-ok g c =
    from_rest g.M.Machine.stands g.M.Machine.serves g.M.Machine.halts g.M.Machine.says g.M.Machine.logs g.M.Machine.serves_last c.args.single c.args.lines.now c.loop.lines c.take_step.new.lines c.args.machine.now c.loop.machine c.take_step.new.machine c.loop.counter c.loop.invariant.follows (rw c.in-Ok-Ended.field-0-is at c.in-Ok-Ended.ensures.ok)

pub returns-in-Ok-Torn-clause-ok : goal.returns-in-Ok-Torn-clause-ok
returns-in-Ok-Torn-clause-ok g c =
    from_torn g.M.Machine.stands g.M.Machine.serves g.M.Machine.halts g.M.Machine.says g.M.Machine.logs g.M.Machine.serves_last c.args.single c.args.lines.now c.loop.lines c.take_step.new.lines c.args.machine.now c.loop.machine c.take_step.new.machine c.loop.counter c.loop.invariant.follows (rw c.in-Ok-Torn.field-0-is at c.in-Ok-Torn.ensures.ok)

pub returns-in-Ok-Over-clause-ok : goal.returns-in-Ok-Over-clause-ok
returns-in-Ok-Over-clause-ok g c =
    from_none g.M.Machine.stands g.M.Machine.serves g.M.Machine.halts g.M.Machine.says g.M.Machine.logs g.M.Machine.serves_last c.args.single c.args.lines.now c.loop.lines c.take_step.new.lines c.args.machine.now c.loop.machine c.take_step.new.machine c.loop.counter c.loop.invariant.follows (rw c.in-Ok-Over.field-0-is at c.in-Ok-Over.ensures.ok)

pub returns-in-Err-clause-err : goal.returns-in-Err-clause-err
returns-in-Err-clause-err g c =
    from_halt g.M.Machine.stands g.M.Machine.serves g.M.Machine.halts g.M.Machine.says g.M.Machine.logs g.M.Machine.serves_last c.args.single c.args.lines.now c.loop.lines c.take_step.new.lines c.args.machine.now c.loop.machine c.take_step.new.machine c.loop.counter c.loop.invariant.follows c.in-Err.fault c.loop.invariant.before c.loop.invariant.fine c.in-Err.ensures.err

pub returns-then-single-clause-ok : goal.returns-then-single-clause-ok
returns-then-single-clause-ok g c =
    from_single g.M.Machine.stands g.M.Machine.serves g.M.Machine.halts g.M.Machine.says g.M.Machine.logs g.M.Machine.serves_last c.args.single c.args.lines.now c.loop.lines c.take_step.new.lines c.args.machine.now c.loop.machine c.take_step.new.machine c.loop.counter c.loop.invariant.follows (rw c.in-Ok-Line.field-0-is at c.in-Ok-Line.ensures.ok) c.if-single.true

pub returns-then-none_waits-clause-ok : goal.returns-then-none_waits-clause-ok
returns-then-none_waits-clause-ok g c =
    from_served g.M.Machine.stands g.M.Machine.serves g.M.Machine.halts g.M.Machine.says g.M.Machine.logs g.M.Machine.serves_last c.args.single c.args.lines.now c.take_step.new.lines c.args.machine.now c.take_step.new.machine c.loop.counter
    (from_more g.M.Machine.stands g.M.Machine.serves g.M.Machine.halts g.M.Machine.says g.M.Machine.logs g.M.Machine.serves_last c.args.single c.args.lines.now c.loop.lines c.take_step.new.lines c.args.machine.now c.loop.machine c.take_step.new.machine c.loop.counter c.loop.invariant.follows (rw c.in-Ok-Line.field-0-is at c.in-Ok-Line.ensures.ok) (λ e. let clash : false ≡ true = sym c.if-single.false ∙ e in cc))
    (subst IsLine c.waiting.ensures (c.none_waits.ensures c.if-none_waits.true))

pub returns-then-is_full-clause-ok : goal.returns-then-is_full-clause-ok
returns-then-is_full-clause-ok g c =
    from_full g.M.Machine.stands g.M.Machine.serves g.M.Machine.halts g.M.Machine.says g.M.Machine.logs g.M.Machine.serves_last c.args.single c.args.lines.now c.take_step.new.lines c.args.machine.now c.take_step.new.machine c.loop.counter
    (from_more g.M.Machine.stands g.M.Machine.serves g.M.Machine.halts g.M.Machine.says g.M.Machine.logs g.M.Machine.serves_last c.args.single c.args.lines.now c.loop.lines c.take_step.new.lines c.args.machine.now c.loop.machine c.take_step.new.machine c.loop.counter c.loop.invariant.follows (rw c.in-Ok-Line.field-0-is at c.in-Ok-Line.ensures.ok) (λ e. let clash : false ≡ true = sym c.if-single.false ∙ e in cc))

pub loop-preserved : goal.loop-preserved
loop-preserved g c =
    let o = rw c.in-Ok-Line.field-0-is at c.in-Ok-Line.ensures.ok in
    record {
      follows = from_more g.M.Machine.stands g.M.Machine.serves g.M.Machine.halts g.M.Machine.says g.M.Machine.logs g.M.Machine.serves_last c.args.single c.args.lines.now c.loop.lines c.take_step.new.lines c.args.machine.now c.loop.machine c.take_step.new.machine c.loop.counter c.loop.invariant.follows o (λ e. let clash : false ≡ true = sym c.if-single.false ∙ e in cc);
      before = omega (arith, c.loop.invariant.before, c.in-Ok-Line.ensures.reads);
      fine = c.in-Ok-Line.ensures.open;
      room = c.is_full.ensures c.if-is_full.false;
      stands = let t = o c.loop.invariant.stands.0 c.loop.invariant.stands.1 in (t.0, t.1);
      flushed = Keeps-trans (g.W.Write.contents c.args.writer.now) (g.W.Write.contents c.loop.writer) (g.W.Write.contents c.take_step.new.writer) c.loop.invariant.flushed c.take_step.ensures.writer;
    }

pub returns-clause-err : goal.returns-clause-err
returns-clause-err g c =
    from_endless g.M.Machine.stands g.M.Machine.serves g.M.Machine.halts g.M.Machine.says g.M.Machine.logs g.M.Machine.serves_last c.args.single c.args.lines.now c.loop.lines c.args.machine.now c.loop.machine c.loop.counter c.loop.invariant.follows c.loop-test.false
