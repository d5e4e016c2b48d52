use Rattle.std.proofs.KnownBytes.{Appends-kept}
use Rattle.wh_lines.proofs.Written.{front_all}
use Rattle.wh_deliver.proofs.delivering.tell.Goals as goal

pub returns-in-Err-flush-clause-front : goal.returns-in-Err-flush-clause-front
returns-in-Err-flush-clause-front g c =
    let had = g.W.Write.contents c.args.writer.now in
    let has = g.W.Write.contents c.flush.new.self in
    front_all had has _ (Appends-kept had _ has _ c.in-Ok.ensures.ok c.flush.ensures.bytes)
