use Rattle.std.proofs.Common.{length, subst, sym}
use Rattle.std.proofs.Common.{IfErr, Result}
use Rattle.wh_desk.specs.Calls.{Refuses}
use Rattle.wh_desk.specs.declared.answer.DeskFault.{DeskFault}
use Rattle.wh_desk.specs.declared.answer.Receipt.{Receipt}
use Rattle.wh_desk.proofs.Telling.{knows_full, refuses_if, untouched_if}
use Rattle.wh_desk.proofs.journal.Journal.enter.Goals as goal

pub returns-then-is_full-clause-pass : goal.returns-then-is_full-clause-pass
returns-then-is_full-clause-pass g c =
    let cells = length g.N.DeskName.cells in
    subst (λ (outcome : Result Receipt DeskFault). IfErr outcome (λ fault. Refuses cells c.args.pass.now fault c.tell_all.new.pass)) (sym c.refused-then-is_full.ensures.outcome)
    (knows_full cells c.args.pass.now c.tell_all.new.pass c.args.self.now.history c.tell_all.ensures (c.knows.ensures.begins c.if-not-knows.false) (c.is_full.ensures.cells c.if-is_full.true))

pub returns-clause-err : goal.returns-clause-err
returns-clause-err g c = untouched_if c.args.self.now c.append.new.self c.append.result.outcome c.args.pass.now c.append.new.pass c.append.ensures.err c.append.ensures.fault

pub returns-clause-pass : goal.returns-clause-pass
returns-clause-pass g c = refuses_if c.args.self.now c.append.new.self _ c.append.result.outcome c.args.pass.now c.append.new.pass c.append.ensures.err c.append.ensures.fault
