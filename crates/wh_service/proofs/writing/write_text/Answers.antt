use Rattle.std.proofs.KnownBytes.{Appends-kept}
use Rattle.wh_replay.proofs.Written.{front_all}
use Rattle.wh_service.proofs.writing.write_text.Goals as goal

pub returns-in-Err-flush-clause-front : goal.returns-in-Err-flush-clause-front
returns-in-Err-flush-clause-front g c =
    let had = g.W.Write.contents c.args.output.now in
    let has = g.W.Write.contents c.flush.new.self in
    front_all had has _ (Appends-kept had _ has _ c.in-Ok.ensures.ok c.flush.ensures.bytes)
