use Rattle.std.proofs.Common.{◌≡◌, ◌∙◌, ℕ, Bool, List, ◌++◌, length, ap₂, subst}
use Rattle.std.specs.Io.KnownBytes.{Appends}
use Rattle.wh_event.specs.declared.entry.Entry.{Entry}
use Rattle.wh_continue.specs.Running.{EndsShort, closing, count_line, first_text, told_again}
use Rattle.wh_continue.proofs.Begun.{whole_log}
use Rattle.wh_continue.proofs.Delivered.{log_delivered}
use Rattle.wh_continue.proofs.running.run_on.Goals as goal

pub returns-in-Ok-end_log-clause-runs : goal.returns-in-Ok-end_log-clause-runs
returns-in-Ok-end_log-clause-runs g c =
    let had = g.W.Write.contents c.args.writer.now in
    let counted = g.W.Write.contents c.tell_first.new.writer in
    let file = g.L.Journal.contents c.args.file.now in
    let begun = g.L.Journal.contents c.begin_log.new.file in
    let kept = g.L.Journal.contents c.continue_run.new.journal in
    let full = g.L.Journal.contents c.deliver_over.new.journal in
    let holds = g.L.Journal.contents c.end_log.new.journal in
    let served = c.in-Ok-continue_run.warehouse.book in
    let new = c.deliver_over.new.warehouse.book in
    let ending : closing c.closed.result (length c.history.result.now) ≡ closing new.state.closed (length new.history) =
    ap₂ (λ (closed : Bool) (entries : List Entry). closing closed (length entries)) c.closed.ensures c.history.ensures.value in
    let ends : Appends full holds (closing new.state.closed (length new.history)) = subst (λ (lines : List ℕ). Appends full holds lines) ending c.in-Ok-end_log.ensures.ok in
    let lines : c.as_slice.result.now ≡ told_again c.args.again c.args.start = c.as_slice.ensures.value ∙ c.in-Ok.ensures in
    let text : count_line c.entries.result ++ c.as_slice.result.now ≡ first_text c.args.again c.args.start =
    ap₂ (λ (entries : ℕ) (told : List ℕ). count_line entries ++ told) c.entries.ensures lines in
    record {
      counted = counted;
      begun = begun;
      counts = record {
        counts = subst (λ (bytes : List ℕ). Appends had counted bytes) text c.in-Ok-tell_first.ensures.ok;
        begins = c.in-Ok-begin_log.ensures.stays;
        begun_is = c.in-Ok-begin_log.ensures.begun;
      };
      safe = g.L.Journal.synced c.continue_run.new.journal;
      kept = kept;
      served = served;
      answered = g.W.Write.contents c.continue_run.new.writer;
      replays = c.in-Ok-continue_run.ensures.replays;
      sure = g.L.Journal.synced c.deliver_over.new.journal;
      full = full;
      delivers = c.in-Ok-deliver_over.ensures.ok;
      ends = ends;
      synced_is = c.in-Ok-end_log.ensures.synced;
      whole = whole_log file begun full holds c.args.start.book new c.in-Ok-begin_log.ensures.stays
          (log_delivered c.args.deliver _ begun kept full _ served new _ _ c.in-Ok-deliver_over.ensures.ok c.in-Ok-continue_run.ensures.log) ends;
    }

pub deliver_over-requires : goal.deliver_over-requires
deliver_over-requires g c = record { synced = c.in-Ok-continue_run.ensures.replays.synced_is }

pub returns-in-Err-deliver_over-clause-fault : goal.returns-in-Err-deliver_over-clause-fault
returns-in-Err-deliver_over-clause-fault g c =
    let had = g.W.Write.contents c.args.writer.now in
    let counted = g.W.Write.contents c.tell_first.new.writer in
    let lines : c.as_slice.result.now ≡ told_again c.args.again c.args.start = c.as_slice.ensures.value ∙ c.in-Ok.ensures in
    let text : count_line c.entries.result ++ c.as_slice.result.now ≡ first_text c.args.again c.args.start =
    ap₂ (λ (entries : ℕ) (told : List ℕ). count_line entries ++ told) c.entries.ensures lines in (
      c.in-Err-deliver_over.ensures.asked,
      (
        counted,
        g.L.Journal.contents c.begin_log.new.file,
        record {
          counts = subst (λ (bytes : List ℕ). Appends had counted bytes) text c.in-Ok-tell_first.ensures.ok;
          begins = c.in-Ok-begin_log.ensures.stays;
          begun_is = c.in-Ok-begin_log.ensures.begun;
        },
        (
          c.in-Ok-continue_run.warehouse.book,
          g.W.Write.contents c.continue_run.new.writer,
          g.L.Journal.synced c.continue_run.new.journal,
          g.L.Journal.contents c.continue_run.new.journal,
          c.in-Ok-continue_run.ensures.replays,
          (c.deliver_over.new.warehouse.book, c.in-Err-deliver_over.ensures.fault),
        ),
      ),
    )

pub returns-in-Err-end_log-clause-fault : goal.returns-in-Err-end_log-clause-fault
returns-in-Err-end_log-clause-fault g c =
    let had = g.W.Write.contents c.args.writer.now in
    let counted = g.W.Write.contents c.tell_first.new.writer in
    let begun = g.L.Journal.contents c.begin_log.new.file in
    let kept = g.L.Journal.contents c.continue_run.new.journal in
    let safe = g.L.Journal.synced c.continue_run.new.journal in
    let full = g.L.Journal.contents c.deliver_over.new.journal in
    let sure = g.L.Journal.synced c.deliver_over.new.journal in
    let ended = c.end_log.new.journal in
    let served = c.in-Ok-continue_run.warehouse.book in
    let new = c.deliver_over.new.warehouse.book in
    let ending : closing c.closed.result (length c.history.result.now) ≡ closing new.state.closed (length new.history) =
    ap₂ (λ (closed : Bool) (entries : List Entry). closing closed (length entries)) c.closed.ensures c.history.ensures.value in
    let short : EndsShort c.in-Err-end_log.fault (closing new.state.closed (length new.history)) full (g.L.Journal.contents ended) sure (g.L.Journal.synced ended) (g.L.Journal.failed ended) =
    subst (λ (lines : List ℕ). EndsShort c.in-Err-end_log.fault lines full (g.L.Journal.contents ended) sure (g.L.Journal.synced ended) (g.L.Journal.failed ended)) ending c.in-Err-end_log.ensures.fault in
    let lines : c.as_slice.result.now ≡ told_again c.args.again c.args.start = c.as_slice.ensures.value ∙ c.in-Ok.ensures in
    let text : count_line c.entries.result ++ c.as_slice.result.now ≡ first_text c.args.again c.args.start =
    ap₂ (λ (entries : ℕ) (told : List ℕ). count_line entries ++ told) c.entries.ensures lines in (
      counted,
      begun,
      record {
        counts = subst (λ (bytes : List ℕ). Appends had counted bytes) text c.in-Ok-tell_first.ensures.ok;
        begins = c.in-Ok-begin_log.ensures.stays;
        begun_is = c.in-Ok-begin_log.ensures.begun;
      },
      (served, g.W.Write.contents c.continue_run.new.writer, safe, kept, c.in-Ok-continue_run.ensures.replays, (new, sure, full, c.in-Ok-deliver_over.ensures.ok, short)),
    )
