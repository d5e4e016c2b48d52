use Rattle.std.proofs.Common.{refl, sym, subst, rules}
use Rattle.wh_journal.specs.declared.fault.JournaledFault.{JournaledFault}
use Rattle.wh_journal.specs.Journals.{Journaled}
use Rattle.wh_journal.proofs.Serving.{replayed_so, stopped_so}
use Rattle.wh_journal.proofs.Telling.{stays_log}
use Rattle.wh_journal.proofs.journaled.serve_script.Goals as goal

pub serve-requires-clause-stands : goal.serve-requires-clause-stands
serve-requires-clause-stands g c =
    let m = c.args.script.now in (
      record { seat = m.warehouse.ghost_name; room = m.spares.ghost_name; book = m.warehouse.now.book; spares = m.spares.now.items; asker = m.asker; most = m.most; replies = m.replies },
      record { seat_is = refl; room_is = refl; book_is = refl; spares_are = refl; asker_is = refl; most_is = refl; replies_are = refl; left = c.requires.left },
    )

pub returns-in-Ok : goal.returns-in-Ok
returns-in-Ok g c =
    let m = c.args.script.now in
    let n = c.serve.new.machine in
    let k = c.args.keeper.now in
    let l = c.serve.new.keeper in
    let r = replayed_so g.P.Plans.fits_map g.P.Plans.slot_count m.warehouse.ghost_name m.spares.ghost_name m.warehouse.now.book m.spares.now.items m.asker m.most m.replies m.first m.clock m.answers.answers.items
    n.warehouse.ghost_name n.spares.ghost_name n.warehouse.now.book n.spares.now.items n.asker n.most n.replies n.first n.clock n.answers.answers.items c.args.lines.now c.serve.new.lines (g.W.Write.contents c.args.writer.now) (g.W.Write.contents c.serve.new.writer)
    (record { name = k.journal.ghost_name; contents = g.J.Journal.contents k.journal.now; synced = g.J.Journal.synced k.journal.now; failed = g.J.Journal.failed k.journal.now })
    (record { name = l.journal.ghost_name; contents = g.J.Journal.contents l.journal.now; synced = g.J.Journal.synced l.journal.now; failed = g.J.Journal.failed l.journal.now })
    c.requires.left c.requires.most c.in-Ok.field-0 c.in-Ok.ensures.over c.in-Ok.ensures.ok in
    record {
      seat = r.1.seat_is;
      room = r.1.room_is;
      name = r.1.name_is;
      ok = r.0;
      log = stays_log _ _ _ _ _ _ _ _ _ _ _ _ _ _ r.0 c.requires.log;
      fault = tt;
      few = r.1.few;
      failed = tt;
      again = λ before. search rules;
    }

pub returns-in-Err : goal.returns-in-Err
returns-in-Err g c =
    let m = c.args.script.now in
    let n = c.serve.new.machine in
    let k = c.args.keeper.now in
    let l = c.serve.new.keeper in
    let r = stopped_so g.P.Plans.fits_map g.P.Plans.slot_count m.warehouse.ghost_name m.spares.ghost_name m.warehouse.now.book m.spares.now.items m.asker m.most m.replies m.first m.clock m.answers.answers.items
    n.warehouse.ghost_name n.spares.ghost_name n.warehouse.now.book n.spares.now.items n.asker n.most n.replies n.first n.clock n.answers.answers.items c.args.lines.now c.serve.new.lines (g.W.Write.contents c.args.writer.now) (g.W.Write.contents c.serve.new.writer)
    (record { name = k.journal.ghost_name; contents = g.J.Journal.contents k.journal.now; synced = g.J.Journal.synced k.journal.now; failed = g.J.Journal.failed k.journal.now })
    (record { name = l.journal.ghost_name; contents = g.J.Journal.contents l.journal.now; synced = g.J.Journal.synced l.journal.now; failed = g.J.Journal.failed l.journal.now })
    c.requires.left c.requires.most c.in-Err.fault c.in-Err.ensures.fault in
    record {
      seat = r.1.seat_is;
      room = r.1.room_is;
      name = r.1.name_is;
      ok = tt;
      log = tt;
      fault = subst (λ (fault : JournaledFault). Journaled g.P.Plans.fits_map g.P.Plans.slot_count m.asker fault c.args.lines.now c.serve.new.lines m.warehouse.now.book m.spares.now.items n.warehouse.now.book n.spares.now.items
          (g.W.Write.contents c.args.writer.now) (g.W.Write.contents c.serve.new.writer) (g.J.Journal.contents k.journal.now) (g.J.Journal.failed l.journal.now) (g.J.Journal.synced l.journal.now) (g.J.Journal.contents l.journal.now)) (sym c.session_fault.ensures) r.0;
      few = r.1.few;
      failed = c.in-Err.ensures.failed;
      again = search rules;
    }
