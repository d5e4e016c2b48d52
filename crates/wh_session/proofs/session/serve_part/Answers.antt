use Rattle.std.proofs.Common.{◌∙◌, sym}
use Rattle.wh_session.proofs.Proceeding.{over_from, part_from, safe_from, ungathered_from, unsettled_from}
use Rattle.wh_session.proofs.session.serve_part.Goals as goal

pub returns-in-Err-clause-fault : goal.returns-in-Err-clause-fault
returns-in-Err-clause-fault g c =
    ungathered_from g.M.Machine.serves g.M.Machine.halts g.K.Keeper.is_safe g.K.Keeper.keeps g.K.Keeper.leaves g.met.K.Keeper.kept_safe g.met.K.Keeper.keeps_none g.met.K.Keeper.keeps_both g.M.Machine.serves_last g.K.Keeper.single g.M.Machine.may_end g.M.Machine.stands g.M.Machine.says g.M.Machine.logs c.in-Err.fault c.args.lines.now c.gather.new.lines c.args.machine.now c.gather.new.machine (g.W.Write.contents c.args.writer.now) (g.W.Write.contents c.gather.new.writer) (g.K.Keeper.holds c.args.keeper.now)
    (rw c.is_single-single.ensures at c.in-Err.ensures.err) c.gather.ensures.writer c.requires.safe c.in-Err.ensures.kept

pub returns-in-Ok-settle-clause-ok : goal.returns-in-Ok-settle-clause-ok
returns-in-Ok-settle-clause-ok g c =
    part_from g.M.Machine.serves g.M.Machine.halts g.K.Keeper.is_safe g.K.Keeper.keeps g.K.Keeper.leaves g.met.K.Keeper.kept_safe g.met.K.Keeper.keeps_none g.met.K.Keeper.keeps_both g.M.Machine.serves_last g.K.Keeper.single g.M.Machine.may_end g.M.Machine.stands g.M.Machine.says g.M.Machine.logs c.args.lines.now c.gather.new.lines c.args.machine.now c.gather.new.machine (g.W.Write.contents c.args.writer.now) (g.W.Write.contents c.gather.new.writer) (g.W.Write.contents c.settle.new.writer) (g.K.Keeper.holds c.args.keeper.now) (g.K.Keeper.holds c.settle.new.keeper) c.in-Ok.round
    (rw c.is_single-single.ensures at c.in-Ok.ensures.ok) c.gather.ensures.writer c.in-Ok-settle.ensures.ok

pub returns-in-Ok-settle-clause-safe : goal.returns-in-Ok-settle-clause-safe
returns-in-Ok-settle-clause-safe g c =
    safe_from g.M.Machine.serves g.M.Machine.halts g.K.Keeper.is_safe g.K.Keeper.keeps g.K.Keeper.leaves g.met.K.Keeper.kept_safe g.met.K.Keeper.keeps_none g.met.K.Keeper.keeps_both g.M.Machine.serves_last g.K.Keeper.single g.M.Machine.may_end g.M.Machine.stands g.M.Machine.says g.M.Machine.logs c.args.lines.now c.gather.new.lines c.args.machine.now c.gather.new.machine (g.W.Write.contents c.gather.new.writer) (g.W.Write.contents c.settle.new.writer) (g.K.Keeper.holds c.args.keeper.now) (g.K.Keeper.holds c.settle.new.keeper) c.in-Ok.round
    (rw c.is_single-single.ensures at c.in-Ok.ensures.ok) c.requires.stands c.in-Ok-settle.ensures.ok

pub returns-in-Err-settle-clause-fault : goal.returns-in-Err-settle-clause-fault
returns-in-Err-settle-clause-fault g c =
    unsettled_from g.M.Machine.serves g.M.Machine.halts g.K.Keeper.is_safe g.K.Keeper.keeps g.K.Keeper.leaves g.met.K.Keeper.kept_safe g.met.K.Keeper.keeps_none g.met.K.Keeper.keeps_both g.M.Machine.serves_last g.K.Keeper.single g.M.Machine.may_end g.M.Machine.stands g.M.Machine.says g.M.Machine.logs c.in-Err-settle.fault c.args.lines.now c.gather.new.lines c.args.machine.now c.gather.new.machine (g.W.Write.contents c.args.writer.now) (g.W.Write.contents c.gather.new.writer) (g.W.Write.contents c.settle.new.writer) (g.K.Keeper.holds c.args.keeper.now) (g.K.Keeper.holds c.settle.new.keeper) c.in-Ok.round
    (rw c.is_single-single.ensures at c.in-Ok.ensures.ok) c.in-Ok.ensures.over (λ e. sym c.is_single-single.ensures ∙ c.is_empty.ensures.several c.if-is_empty.false e) c.gather.ensures.writer c.requires.safe c.in-Err-settle.ensures.fault

pub returns-then-is_empty-clause-ok : goal.returns-then-is_empty-clause-ok
returns-then-is_empty-clause-ok g c =
    let none = c.is_empty.ensures.over c.if-is_empty.true in
    over_from g.M.Machine.serves g.M.Machine.halts g.K.Keeper.is_safe g.K.Keeper.keeps g.K.Keeper.leaves g.met.K.Keeper.kept_safe g.met.K.Keeper.keeps_none g.met.K.Keeper.keeps_both g.M.Machine.serves_last g.K.Keeper.single g.M.Machine.may_end g.M.Machine.stands g.M.Machine.says g.M.Machine.logs c.args.lines.now c.gather.new.lines c.args.machine.now c.gather.new.machine (g.W.Write.contents c.args.writer.now) (g.W.Write.contents c.gather.new.writer) (g.K.Keeper.holds c.args.keeper.now) c.in-Ok.round
    (rw c.is_single-single.ensures at c.in-Ok.ensures.ok) c.gather.ensures.writer c.requires.safe (sym c.is_single-single.ensures ∙ none.0) none.1
