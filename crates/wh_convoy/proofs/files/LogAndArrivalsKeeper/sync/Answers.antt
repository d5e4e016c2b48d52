use Rattle.std.proofs.Common.{[], ap, subst, sym, append-nil, MutBor}
use Rattle.std.specs.Io.KnownBytes.{Keeps}
use Rattle.wh_convoy.proofs.Filing.{log_unsynced, arrivals_unsynced}
use Rattle.wh_convoy.proofs.files.LogAndArrivalsKeeper.sync.Goals as goal

pub returns-in-Err-clause-err : goal.returns-in-Err-clause-err
returns-in-Err-clause-err g c a r safe p =
    let others = c.sync_log.ensures.others in
    log_unsynced a _ _ r r [] (sym (append-nil r.log)) safe p c.in-Err.ensures.waited
    (record { log = c.sync_log.ensures.name; arrivals = ap (λ (x : MutBor g.row.J.Denot). x.ghost_name) others.0 }) c.sync_log.ensures.contents c.in-Err.ensures.stays
    (λ i. record { name = (others.0 i).ghost_name; contents = g.J.Journal.contents (others.0 i).now; synced = g.J.Journal.synced (others.0 i).now; failed = g.J.Journal.failed (others.0 i).now; waits = others.1 i }) c.in-Err.ensures.failed

pub returns-in-Err-sync-clause-err : goal.returns-in-Err-sync-clause-err
returns-in-Err-sync-clause-err g c a r safe p =
    let others = c.sync_log.ensures.others in
    arrivals_unsynced a _ _ r safe p
    (record { log = c.sync_log.ensures.name; arrivals = ap (λ (x : MutBor g.row.J.Denot). x.ghost_name) others.0 }) c.sync_log.ensures.contents c.in-Ok.ensures.synced
    (subst (λ (x : MutBor g.row.J.Denot). Keeps (g.J.Journal.contents x.now) (g.J.Journal.contents c.sync.new.self)) others.0 c.sync.ensures.contents)
    (subst (λ (x : MutBor g.row.J.Denot). Keeps (g.J.Journal.synced x.now) (g.J.Journal.synced c.sync.new.self)) others.0 c.in-Err-sync.ensures.err)
    c.in-Err-sync.ensures.failed
