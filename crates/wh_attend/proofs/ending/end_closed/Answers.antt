use Rattle.std.proofs.Common.{◌≡◌, ℕ, Bool, List, ap₂, length, subst}
use Rattle.std.specs.Prelude.{IfErr, OnOk}
use Rattle.std.specs.Io.KnownBytes.{Appends}
use Rattle.wh_event.specs.declared.entry.Entry.{Entry}
use Rattle.wh_continue.specs.Running.{EndsShort, closing}
use Rattle.wh_attend.specs.Attends.{ending_of}
use Rattle.wh_attend.proofs.Wholes.{end_short, if_err}
use Rattle.wh_attend.proofs.ending.end_closed.Goals as goal

pub returns : goal.returns
returns g c =
    let had = g.L.Journal.contents c.args.journal.now in
    let has = g.L.Journal.contents c.end_log.new.journal in
    let ending : closing c.closed.result (length c.history.result.now) ≡ ending_of c.args.warehouse.now.book =
    ap₂ (λ (closed : Bool) (entries : List Entry). closing closed (length entries)) c.closed.ensures c.history.ensures.value in
    record {
      ok = subst (λ (lines : List ℕ). OnOk c.end_log.result (Appends had has lines)) ending c.end_log.ensures.ok;
      synced = c.end_log.ensures.synced;
      front = if_err c.end_log.result _ _ c.end_log.ensures.fault
          (λ fault short. end_short fault (ending_of c.args.warehouse.now.book) had has (g.L.Journal.synced c.args.journal.now) (g.L.Journal.synced c.end_log.new.journal) (g.L.Journal.failed c.end_log.new.journal)
          (subst (λ (lines : List ℕ). EndsShort fault lines had has (g.L.Journal.synced c.args.journal.now) (g.L.Journal.synced c.end_log.new.journal) (g.L.Journal.failed c.end_log.new.journal)) ending short));
    }
