use Rattle.wh_continue.proofs.Begun.{alone_short}
use Rattle.wh_continue.proofs.running.write_alone.Goals as goal

pub returns-in-Ok-clause-left : goal.returns-in-Ok-clause-left
returns-in-Ok-clause-left g c =
    alone_short c.keep.result (g.L.Journal.contents c.args.file.now) (g.L.Journal.contents c.cut_behind.new.file) (g.L.Journal.contents c.keep.new.journal) c.args.text.now
    c.keep.ensures.front c.in-Ok.ensures.ok
