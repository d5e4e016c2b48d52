use Rattle.std.proofs.Common.{length}
use Rattle.wh_host.proofs.Turning.{share_came, share_next, stops_next, used_asking}
use Rattle.wh_host.proofs.pacing.ask_next.Goals as goal

pub returns-then-is_used-clause-err : goal.returns-then-is_used-clause-err
returns-then-is_used-clause-err g c = used_asking g.N.DeskName.origin (length g.N.DeskName.cells) c.args.entries c.args.pass.now c.args.asked.now (c.is_used.ensures.used c.if-is_used.true)

pub returns-in-Ok-clause-share : goal.returns-in-Ok-clause-share
returns-in-Ok-clause-share g c =
    share_came g.N.DeskName.origin c.args.entries c.args.pass.now c.args.asked.now c.in-Ok.next c.request_next.new.pass c.request_next.new.asked c.in-Ok.ensures.next c.in-Ok.ensures.none (c.is_used.ensures.left c.if-is_used.false)

pub returns-in-Err-clause-err : goal.returns-in-Err-clause-err
returns-in-Err-clause-err g c = stops_next g.N.DeskName.origin (length g.N.DeskName.cells) c.args.entries c.args.pass.now c.args.asked.now c.in-Err.fault c.request_next.new.pass c.request_next.new.asked c.in-Err.ensures.left

pub returns-in-Err-clause-share : goal.returns-in-Err-clause-share
returns-in-Err-clause-share g c =
    share_next g.N.DeskName.origin (length g.N.DeskName.cells) c.args.entries c.args.pass.now c.args.asked.now c.in-Err.fault c.request_next.new.pass c.request_next.new.asked c.in-Err.ensures.left (c.is_used.ensures.left c.if-is_used.false)
