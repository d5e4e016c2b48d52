use Rattle.std.proofs.Common.{◌≡◌, ℕ, Bool, List, length, ap₂, subst}
use Rattle.std.specs.Io.KnownBytes.{Appends}
use Rattle.wh_event.specs.declared.entry.Entry.{Entry}
use Rattle.wh_continue.specs.Running.{EndsShort, closing}
use Rattle.wh_convoy.specs.Convoys.{Held}
use Rattle.wh_convoy.proofs.Standing.{both_synced}
use Rattle.wh_convoy.proofs.Ridden.{manned_out, until_from, to_end, unended, unset}
use Rattle.wh_convoy.proofs.riding.ride.Goals as goal
use Rattle.wh_journal.specs.Journals.{log_asker}

pub returns-in-Err-clause-fault : goal.returns-in-Err-clause-fault
returns-in-Err-clause-fault g c =
    let begun : Held = record { log = g.L.Journal.contents c.args.log.now; arrivals = g.L.Journal.contents c.args.arrivals.now } in
    let synced : Held = record { log = g.L.Journal.synced c.args.log.now; arrivals = g.L.Journal.synced c.args.arrivals.now } in
    unset g.P.Plans.fits_map g.P.Plans.slot_count (log_asker c.args.form) c.args.vehicles.now.bound c.in-Err.fault c.args.lines.now c.args.warehouse.now.book c.args.spares.now.items c.args.vehicles.now
    (g.W.Write.contents c.args.writer.now) (g.W.Write.contents c.set_out.new.writer) begun synced (g.L.Journal.failed c.args.log.now) (g.L.Journal.failed c.args.arrivals.now)
    (both_synced _ _ _ _ c.requires.log c.requires.arrivals) c.requires.untold c.in-Err.ensures.err

pub convoy-requires-clause-manned : goal.convoy-requires-clause-manned
convoy-requires-clause-manned g c = manned_out g.P.Plans.fits_map g.P.Plans.slot_count (log_asker c.args.form) c.args.vehicles.now.bound c.args.warehouse.now.book c.args.vehicles.now c.set_out.new.vehicles _ _ c.in-Ok.ensures.ok c.requires.stand

pub returns-in-Err-convoy-clause-fault : goal.returns-in-Err-convoy-clause-fault
returns-in-Err-convoy-clause-fault g c d m =
    let begun : Held = record { log = g.L.Journal.contents c.args.log.now; arrivals = g.L.Journal.contents c.args.arrivals.now } in
    let holds : Held = record { log = g.L.Journal.contents c.convoy.new.log; arrivals = g.L.Journal.contents c.convoy.new.arrivals } in
    let synced : Held = record { log = g.L.Journal.synced c.convoy.new.log; arrivals = g.L.Journal.synced c.convoy.new.arrivals } in (
      c.in-Err-convoy.ensures.cause,
      until_from _ _ _ _ c.args.warehouse.now.book c.args.vehicles.now c.set_out.new.vehicles _ _ c.in-Ok.ensures.ok c.set_out.new.vehicles.bound c.set_out.ensures.bound
          c.args.lines.now c.convoy.new.lines _ _ begun holds synced c.in-Err-convoy.ensures.fault d m,
    )

pub returns-in-Ok-end_log-clause-ok : goal.returns-in-Ok-end_log-clause-ok
returns-in-Ok-end_log-clause-ok g c =
    let begun : Held = record { log = g.L.Journal.contents c.args.log.now; arrivals = g.L.Journal.contents c.args.arrivals.now } in
    let kept : Held = record { log = g.L.Journal.contents c.convoy.new.log; arrivals = g.L.Journal.contents c.convoy.new.arrivals } in
    let safe : Held = record { log = g.L.Journal.synced c.convoy.new.log; arrivals = g.L.Journal.synced c.convoy.new.arrivals } in
    let holds = g.L.Journal.contents c.end_log.new.journal in
    let new = c.convoy.new.warehouse.book in
    let ending : closing c.closed.result (length c.history.result.now) ≡ closing new.state.closed (length new.history) =
    ap₂ (λ (closed : Bool) (entries : List Entry). closing closed (length entries)) c.closed.ensures c.history.ensures.value in
    let ends : Appends kept.log holds (closing new.state.closed (length new.history)) = subst (λ (lines : List ℕ). Appends kept.log holds lines) ending c.in-Ok-end_log.ensures.ok in
    to_end _ _ _ _ c.args.warehouse.now.book c.args.vehicles.now c.set_out.new.vehicles _ _ c.in-Ok.ensures.ok c.set_out.new.vehicles.bound c.set_out.ensures.bound
    c.args.lines.now c.convoy.new.lines _ new _ c.convoy.new.vehicles _ begun kept safe holds (g.L.Journal.synced c.end_log.new.journal)
    c.in-Ok-convoy.ensures.ok ends c.in-Ok-end_log.ensures.synced

pub returns-in-Err-end_log-clause-fault : goal.returns-in-Err-end_log-clause-fault
returns-in-Err-end_log-clause-fault g c =
    let begun : Held = record { log = g.L.Journal.contents c.args.log.now; arrivals = g.L.Journal.contents c.args.arrivals.now } in
    let kept : Held = record { log = g.L.Journal.contents c.convoy.new.log; arrivals = g.L.Journal.contents c.convoy.new.arrivals } in
    let safe : Held = record { log = g.L.Journal.synced c.convoy.new.log; arrivals = g.L.Journal.synced c.convoy.new.arrivals } in
    let holds = g.L.Journal.contents c.end_log.new.journal in
    let synced = g.L.Journal.synced c.end_log.new.journal in
    let failed = g.L.Journal.failed c.end_log.new.journal in
    let fault = c.in-Err-end_log.fault in
    let new = c.convoy.new.warehouse.book in
    let ending : closing c.closed.result (length c.history.result.now) ≡ closing new.state.closed (length new.history) =
    ap₂ (λ (closed : Bool) (entries : List Entry). closing closed (length entries)) c.closed.ensures c.history.ensures.value in
    unended _ _ _ _ c.args.warehouse.now.book c.args.vehicles.now c.set_out.new.vehicles _ _ c.in-Ok.ensures.ok c.set_out.new.vehicles.bound c.set_out.ensures.bound
    fault c.args.lines.now c.convoy.new.lines _ new _ c.convoy.new.vehicles _ begun kept safe holds synced failed (g.L.Journal.failed c.convoy.new.arrivals)
    c.in-Ok-convoy.ensures.ok (subst (λ (lines : List ℕ). EndsShort fault lines kept.log holds safe.log synced failed) ending c.in-Err-end_log.ensures.fault)
