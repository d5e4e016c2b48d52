use Rattle.std.proofs.KnownBytes.{Appends-kept}
use Rattle.wh_continue.proofs.Begun.{front_whole}
use Rattle.wh_continue.proofs.running.keep.Goals as goal

pub returns-in-Err-sync-clause-front : goal.returns-in-Err-sync-clause-front
returns-in-Err-sync-clause-front g c =
    front_whole (g.J.Journal.contents c.args.journal.now) (g.J.Journal.contents c.sync.new.self) c.args.bytes.now
    (Appends-kept (g.J.Journal.contents c.args.journal.now) (g.J.Journal.contents c.append.new.self) (g.J.Journal.contents c.sync.new.self) c.args.bytes.now
    c.in-Ok.ensures.ok c.in-Err-sync.ensures.contents)
