use Rattle.std.proofs.KnownBytes.{Appends-kept}
use Rattle.wh_lines.proofs.Written.{front_all}
use Rattle.wh_session.proofs.session.tell_all.Goals as goal

pub returns-in-Err-flush-clause-front : goal.returns-in-Err-flush-clause-front
returns-in-Err-flush-clause-front g c s h =
    front_all (g.W.Write.contents c.args.writer.now) (g.W.Write.contents c.flush.new.self) (g.M.Machine.says c.args.machine.now s)
    (Appends-kept (g.W.Write.contents c.args.writer.now) (g.W.Write.contents c.tell.new.writer) (g.W.Write.contents c.flush.new.self) (g.M.Machine.says c.args.machine.now s) (c.in-Ok.ensures.ok s h) c.in-Err-flush.ensures.bytes)
