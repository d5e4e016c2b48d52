use Rattle.std.proofs.Common.{refl, sym, subst}
use Rattle.wh_replay.specs.declared.script.ReplayFault.{ReplayFault}
use Rattle.wh_replay.specs.Scripts.{Stops}
use Rattle.wh_replay.proofs.Whole.{replayed_so, stopped_so}
use Rattle.wh_replay.proofs.script.serve_script.Goals as goal

pub serve-requires-clause-stands : goal.serve-requires-clause-stands
serve-requires-clause-stands g c =
    let m = c.args.script.now in (
      record { seat = m.warehouse.ghost_name; room = m.spares.ghost_name; book = m.warehouse.now.book; spares = m.spares.now.items; asker = m.asker; most = m.most; replies = m.replies },
      record { seat_is = refl; room_is = refl; book_is = refl; spares_are = refl; asker_is = refl; most_is = refl; replies_are = refl; left = c.requires.left },
    )

pub returns-in-Ok-clause-seat : goal.returns-in-Ok-clause-seat
returns-in-Ok-clause-seat g c =
    let m = c.args.script.now in
    let n = c.serve.new.machine in
    (replayed_so g.P.Plans.fits_map g.P.Plans.slot_count m.warehouse.ghost_name m.spares.ghost_name m.warehouse.now.book m.spares.now.items m.asker m.most m.replies m.first m.clock m.answers.answer.items
    n.warehouse.ghost_name n.spares.ghost_name n.warehouse.now.book n.spares.now.items n.asker n.most n.replies n.first n.clock n.answers.answer.items (λ a r b. Unit {0}) (λ a r b. ⊥) c.args.lines.now c.serve.new.lines (g.W.Write.contents c.args.writer.now) (g.W.Write.contents c.serve.new.writer) tt tt c.requires.left c.in-Ok.field-0 c.in-Ok.ensures.over c.requires.replies c.in-Ok.ensures.ok).1

pub returns-in-Ok-clause-room : goal.returns-in-Ok-clause-room
returns-in-Ok-clause-room g c =
    let m = c.args.script.now in
    let n = c.serve.new.machine in
    (replayed_so g.P.Plans.fits_map g.P.Plans.slot_count m.warehouse.ghost_name m.spares.ghost_name m.warehouse.now.book m.spares.now.items m.asker m.most m.replies m.first m.clock m.answers.answer.items
    n.warehouse.ghost_name n.spares.ghost_name n.warehouse.now.book n.spares.now.items n.asker n.most n.replies n.first n.clock n.answers.answer.items (λ a r b. Unit {0}) (λ a r b. ⊥) c.args.lines.now c.serve.new.lines (g.W.Write.contents c.args.writer.now) (g.W.Write.contents c.serve.new.writer) tt tt c.requires.left c.in-Ok.field-0 c.in-Ok.ensures.over c.requires.replies c.in-Ok.ensures.ok).2

pub returns-in-Ok-clause-ok : goal.returns-in-Ok-clause-ok
returns-in-Ok-clause-ok g c =
    let m = c.args.script.now in
    let n = c.serve.new.machine in
    (replayed_so g.P.Plans.fits_map g.P.Plans.slot_count m.warehouse.ghost_name m.spares.ghost_name m.warehouse.now.book m.spares.now.items m.asker m.most m.replies m.first m.clock m.answers.answer.items
    n.warehouse.ghost_name n.spares.ghost_name n.warehouse.now.book n.spares.now.items n.asker n.most n.replies n.first n.clock n.answers.answer.items (λ a r b. Unit {0}) (λ a r b. ⊥) c.args.lines.now c.serve.new.lines (g.W.Write.contents c.args.writer.now) (g.W.Write.contents c.serve.new.writer) tt tt c.requires.left c.in-Ok.field-0 c.in-Ok.ensures.over c.requires.replies c.in-Ok.ensures.ok).0

pub returns-in-Err-clause-seat : goal.returns-in-Err-clause-seat
returns-in-Err-clause-seat g c =
    let m = c.args.script.now in
    let n = c.serve.new.machine in
    (stopped_so g.P.Plans.fits_map g.P.Plans.slot_count m.warehouse.ghost_name m.spares.ghost_name m.warehouse.now.book m.spares.now.items m.asker m.most m.replies m.first m.clock m.answers.answer.items
    n.warehouse.ghost_name n.spares.ghost_name n.warehouse.now.book n.spares.now.items n.asker n.most n.replies n.first n.clock n.answers.answer.items (λ a r b. Unit {0}) (λ a r b. ⊥) c.args.lines.now c.serve.new.lines (g.W.Write.contents c.args.writer.now) (g.W.Write.contents c.serve.new.writer) tt tt c.requires.left (λ a r b p. p) c.in-Err.fault c.in-Err.ensures.fault).1

pub returns-in-Err-clause-room : goal.returns-in-Err-clause-room
returns-in-Err-clause-room g c =
    let m = c.args.script.now in
    let n = c.serve.new.machine in
    (stopped_so g.P.Plans.fits_map g.P.Plans.slot_count m.warehouse.ghost_name m.spares.ghost_name m.warehouse.now.book m.spares.now.items m.asker m.most m.replies m.first m.clock m.answers.answer.items
    n.warehouse.ghost_name n.spares.ghost_name n.warehouse.now.book n.spares.now.items n.asker n.most n.replies n.first n.clock n.answers.answer.items (λ a r b. Unit {0}) (λ a r b. ⊥) c.args.lines.now c.serve.new.lines (g.W.Write.contents c.args.writer.now) (g.W.Write.contents c.serve.new.writer) tt tt c.requires.left (λ a r b p. p) c.in-Err.fault c.in-Err.ensures.fault).2

pub returns-in-Err-clause-fault : goal.returns-in-Err-clause-fault
returns-in-Err-clause-fault g c =
    let m = c.args.script.now in
    let n = c.serve.new.machine in
    subst (λ (fault : ReplayFault). Stops g.P.Plans.fits_map g.P.Plans.slot_count m.asker fault c.args.lines.now c.serve.new.lines m.warehouse.now.book m.spares.now.items n.warehouse.now.book n.spares.now.items (g.W.Write.contents c.args.writer.now) (g.W.Write.contents c.serve.new.writer)) (sym c.session_fault.ensures)
    (stopped_so g.P.Plans.fits_map g.P.Plans.slot_count m.warehouse.ghost_name m.spares.ghost_name m.warehouse.now.book m.spares.now.items m.asker m.most m.replies m.first m.clock m.answers.answer.items
    n.warehouse.ghost_name n.spares.ghost_name n.warehouse.now.book n.spares.now.items n.asker n.most n.replies n.first n.clock n.answers.answer.items (λ a r b. Unit {0}) (λ a r b. ⊥) c.args.lines.now c.serve.new.lines (g.W.Write.contents c.args.writer.now) (g.W.Write.contents c.serve.new.writer) tt tt c.requires.left (λ a r b p. p) c.in-Err.fault c.in-Err.ensures.fault).0
