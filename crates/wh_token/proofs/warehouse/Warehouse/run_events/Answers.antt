use Rattle.std.proofs.Common.{◌≡◌, ◌∷◌, [], ◌++◌, ◌∙◌, ap, arith}
use Rattle.wh_token.specs.Houses.{House}
use Rattle.wh_token.proofs.Runs.{ran-take-at, ran-run, history-more, length-added, length-kept}
use Rattle.wh_book.proofs.Kept.{run-served}
use Rattle.wh_token.specs.Runs.{entries_of}
use Rattle.wh_token.proofs.warehouse.Warehouse.run_events.Goals.{then-added, else-added}
use Rattle.wh_token.proofs.warehouse.Warehouse.run_events.Goals as goal

pub loop-command-preserved : goal.loop-command-preserved
loop-command-preserved g c =
    let before = c.loop-command.invariant in
    let one = c.run_event-added.ensures.runs in
    let outcomes = before.ran.0 in
    record {
      stays = record { site = one.stays.site ∙ before.stays.site; opening = one.stays.opening ∙ before.stays.opening };
      count = elim c.if-added.branch [ then-added w ↦ omega arith | else-added w ↦ omega arith ];
      ran = (
        outcomes ++ one.outcome ∷ [],
        history-more _ _ _ outcomes one.outcome before.ran.1 one.history,
        elim c.if-added.branch [
          | then-added w ↦ rw w.entries-is (length-added outcomes one.outcome _ before.ran.2 (one.added_is ∙ w.if-added.true))
          | else-added w ↦ rw w.entries-is (length-kept outcomes one.outcome _ before.ran.2 (one.added_is ∙ w.if-added.false))
        ],
        ran-take-at g.P.Plans.fits_map g.P.Plans.slot_count c.args.self.now.book.site c.loop-command.self.book.site c.args.caller c.args.commands.now c.loop-command.command-index c.command-item.result outcomes one.outcome
            c.args.self.now.book.state c.args.spares.now.items _ _ c.run_event-added.new.self.book.state c.run_event-added.new.spares.items
            before.stays.site c.loop-command-test.true c.command-item.is before.ran.3 one.moves,
      );
    }

pub returns-clause-run : goal.returns-clause-run
returns-clause-run g c =
    let before = c.loop-command.invariant in
    let book = c.args.self.now.book in
    let same : c.self.inside.book ≡ book = ap (λ (h : House g.row.P.Denot). h.book) c.self.view_is in
    let opening = rw same at c.history-before.ensures.opening in
    let before_run = rw same at c.history-before.ensures.run in
    let run = ran-run _ _ book.site c.args.caller _ before.ran.0 book.state c.args.spares.now.items _ _ before.ran.3 in (
      entries_of before.ran.0,
      before.ran.1,
      before.ran.2,
      run,
      λ ways. run-served book.site book.opening book.history book.state (entries_of before.ran.0) _ opening before_run run ways,
    )
