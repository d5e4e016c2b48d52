use Rattle.std.proofs.Common.{refl}
use Rattle.wh_journal.proofs.Failing.{sync_failed}
use Rattle.wh_journal.proofs.keeping.JournalKeeperKeeper.sync.Goals as goal

pub returns-in-Err-clause-err : goal.returns-in-Err-clause-err
returns-in-Err-clause-err g c a r safe p =
    let name = c.args.self.now.journal.ghost_name in
    let old = c.args.self.now.journal.now in
    let new = c.sync.new.self in
    sync_failed a (record { name = name; contents = g.J.Journal.contents old; synced = g.J.Journal.synced old; failed = g.J.Journal.failed old })
    (record { name = name; contents = g.J.Journal.contents new; synced = g.J.Journal.synced new; failed = g.J.Journal.failed new }) r p refl c.in-Err.ensures.err c.in-Err.ensures.failed c.sync.ensures.contents
