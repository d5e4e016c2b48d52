use Rattle.std.proofs.Common.{◌∙◌, sym}
use Rattle.wh_session.proofs.Proceeding.{before_from, failed_from}
use Rattle.wh_session.proofs.session.serve_until.Goals as goal

pub returns-then-has_failed-clause-fault : goal.returns-then-has_failed-clause-fault
returns-then-has_failed-clause-fault g c =
    before_from g.M.Machine.serves g.M.Machine.halts g.K.Keeper.is_safe g.K.Keeper.keeps g.K.Keeper.leaves g.met.K.Keeper.kept_safe g.met.K.Keeper.keeps_none g.met.K.Keeper.keeps_both g.M.Machine.serves_last g.K.Keeper.single g.M.Machine.may_end g.M.Machine.stands g.M.Machine.says g.M.Machine.logs c.args.lines.now c.args.machine.now (g.W.Write.contents c.args.writer.now) (g.K.Keeper.holds c.args.keeper.now) c.requires.safe (sym c.has_failed.ensures ∙ c.if-has_failed.true)

pub returns-in-Err-clause-fault : goal.returns-in-Err-clause-fault
returns-in-Err-clause-fault g c =
    failed_from g.M.Machine.serves g.M.Machine.halts g.K.Keeper.is_safe g.K.Keeper.keeps g.K.Keeper.leaves g.met.K.Keeper.kept_safe g.met.K.Keeper.keeps_none g.met.K.Keeper.keeps_both g.M.Machine.serves_last g.K.Keeper.single g.M.Machine.may_end g.M.Machine.stands g.M.Machine.says g.M.Machine.logs c.in-Err.fault c.args.lines.now c.serve_all.new.lines c.fail.new.self c.args.machine.now c.serve_all.new.machine (g.W.Write.contents c.args.writer.now) (g.W.Write.contents c.serve_all.new.writer) (g.K.Keeper.holds c.args.keeper.now) (g.K.Keeper.holds c.serve_all.new.keeper)
    c.fail.ensures c.in-Err.ensures.fault
