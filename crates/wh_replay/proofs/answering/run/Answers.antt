use Rattle.wh_replay.proofs.Answered.{answers_entry, answers_none, not_run}
use Rattle.wh_replay.proofs.answering.run.Goals as goal
use Rattle.std.proofs.Common.{refl, false}

pub returns-then-history-most-clause-answers : goal.returns-then-history-most-clause-answers
returns-then-history-most-clause-answers g c form =
    answers_none g.P.Plans.fits_map g.P.Plans.slot_count (record { caller = c.args.caller; form = form }) c.args.command.now c.args.warehouse.now.book c.args.spares.now.items c.args.warehouse.now.book c.args.spares.now.items
    c.history.ensures.opening c.history.ensures.run false (not_run g.P.Plans.fits_map g.P.Plans.slot_count c.args.caller c.args.command.now c.args.warehouse.now.book c.args.spares.now.items) refl

pub returns-then-run_event-clause-answers : goal.returns-then-run_event-clause-answers
returns-then-run_event-clause-answers g c form =
    answers_entry g.P.Plans.fits_map g.P.Plans.slot_count (record { caller = c.args.caller; form = form }) c.args.command.now c.args.warehouse.now.book c.args.spares.now.items c.run_event.new.self.book c.run_event.new.spares.items
    c.history.ensures.opening c.history.ensures.run c.run_event.result c.run_event.ensures.runs c.if-run_event.true

pub returns-else-run_event-clause-answers : goal.returns-else-run_event-clause-answers
returns-else-run_event-clause-answers g c form =
    answers_none g.P.Plans.fits_map g.P.Plans.slot_count (record { caller = c.args.caller; form = form }) c.args.command.now c.args.warehouse.now.book c.args.spares.now.items c.run_event.new.self.book c.run_event.new.spares.items
    c.history.ensures.opening c.history.ensures.run c.run_event.result c.run_event.ensures.runs c.if-run_event.false
