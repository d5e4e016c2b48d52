use Rattle.wh_desk.proofs.Telling.{together}
use Rattle.wh_desk.proofs.journal.Journal.meet.Goals as goal

pub returns-clause-ok : goal.returns-clause-ok
returns-clause-ok g c =
    let one = c.knows.ensures.whole c.if-not-knows.false in
    let two = c.knows-2.ensures.whole c.if-not-knows-2.false in
    together c.args.self.now.history c.args.self.now.state c.is_run.ensures c.len-length.ensures one two
