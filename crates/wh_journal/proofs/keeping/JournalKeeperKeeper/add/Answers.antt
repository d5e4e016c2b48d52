use Rattle.std.proofs.Common.{refl}
use Rattle.wh_journal.proofs.Failing.{piece_failed}
use Rattle.wh_journal.proofs.keeping.JournalKeeperKeeper.add.Goals as goal

pub returns-in-Err-clause-err : goal.returns-in-Err-clause-err
returns-in-Err-clause-err g c a r rest safe p order =
    let name = c.args.self.now.journal.ghost_name in
    let old = c.args.self.now.journal.now in
    let new = c.append.new.self in
    piece_failed a (record { name = name; contents = g.J.Journal.contents old; synced = g.J.Journal.synced old; failed = g.J.Journal.failed old })
    (record { name = name; contents = g.J.Journal.contents new; synced = g.J.Journal.synced new; failed = g.J.Journal.failed new }) r p refl c.append.ensures.synced c.in-Err.ensures.failed c.args.log.now rest c.in-Err.ensures.err
