use Rattle.std.proofs.Common.{◌∙◌, ◌++◌, [], ℕ, List, ap, subst, refl, append-nil, MutBor}
use Rattle.wh_lines.specs.Output.{WritesFront}
use Rattle.std.specs.Io.KnownBytes.{Keeps}
use Rattle.wh_session.specs.Machines.{joined}
use Rattle.wh_convoy.proofs.Filing.{log_unsynced, arrivals_failed}
use Rattle.wh_convoy.proofs.files.LogAndArrivalsKeeper.add_more.Goals as goal

pub returns-in-Err-clause-err : goal.returns-in-Err-clause-err
returns-in-Err-clause-err g c a r rest safe p order =
    let others = c.sync_log.ensures.others in
    log_unsynced a _ _ r (joined (joined r (record { log = []; more = c.args.more.now })) rest) rest.log (ap (λ (l : List ℕ). l ++ rest.log) (append-nil r.log)) safe p c.in-Err.ensures.waited
    (record { log = c.sync_log.ensures.name; arrivals = ap (λ (x : MutBor g.row.J.Denot). x.ghost_name) others.0 }) c.sync_log.ensures.contents c.in-Err.ensures.stays
    (λ i. record { name = (others.0 i).ghost_name; contents = g.J.Journal.contents (others.0 i).now; synced = g.J.Journal.synced (others.0 i).now; failed = g.J.Journal.failed (others.0 i).now; waits = others.1 i }) c.in-Err.ensures.failed

pub returns-in-Err-append-clause-err : goal.returns-in-Err-append-clause-err
returns-in-Err-append-clause-err g c a r rest safe p order =
    let others = c.sync_log.ensures.others in
    arrivals_failed a _ _ r (joined (joined r (record { log = []; more = c.args.more.now })) rest) c.args.more.now rest.more
    (ap (λ (l : List ℕ). (r.log ++ []) ++ l) order ∙ append-nil (r.log ++ []) ∙ append-nil r.log) refl safe p
    (record { log = c.sync_log.ensures.name; arrivals = ap (λ (x : MutBor g.row.J.Denot). x.ghost_name) others.0 }) c.sync_log.ensures.contents c.in-Ok.ensures.synced
    (subst (λ (x : MutBor g.row.J.Denot). WritesFront (g.J.Journal.contents x.now) (g.J.Journal.contents c.append.new.self) c.args.more.now) others.0 c.in-Err-append.ensures.err)
    (subst (λ (x : MutBor g.row.J.Denot). Keeps (g.J.Journal.synced x.now) (g.J.Journal.synced c.append.new.self)) others.0 c.append.ensures.synced)
    c.in-Err-append.ensures.failed
