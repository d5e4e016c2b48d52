use Rattle.std.proofs.Common.{refl, length}
use Rattle.wh_serve.specs.Texts.{receipt_text}
use Rattle.wh_serve.specs.Machines.{standing}
use Rattle.wh_serve.specs.Sessions.{end_of}
use Rattle.wh_serve.proofs.Ending.{served_so, served_same, stopped_so, stopped_as}
use Rattle.wh_serve.proofs.Serving.{outputs_of}
use Rattle.wh_serve.proofs.client.attend.Goals as goal

pub serve-requires-clause-stands : goal.serve-requires-clause-stands
serve-requires-clause-stands g c =
    let m = c.args.caller.now in
    (standing m.pass.ghost_name m.spares.ghost_name m.pass.now m.spares.now.items m.may m.form m.tag m.begun m.replies, refl)

pub returns-in-Ok-clause-seat : goal.returns-in-Ok-clause-seat
returns-in-Ok-clause-seat g c =
    let m = c.args.caller.now in
    let n = c.serve.new.machine in
    (served_same (length g.N.DeskName.cells) g.P.Plans.fits_map g.P.Plans.slot_count g.N.DeskName.origin
    (standing m.pass.ghost_name m.spares.ghost_name m.pass.now m.spares.now.items m.may m.form m.tag m.begun m.replies)
    (standing n.pass.ghost_name n.spares.ghost_name n.pass.now n.spares.now.items n.may n.form n.tag n.begun n.replies)
    (λ a r b. Unit {0}) (λ a r b. ⊥) c.args.lines.now c.serve.new.lines (g.W.Write.contents c.args.writer.now) (g.W.Write.contents c.serve.new.writer) tt tt c.requires.begun c.requires.tag c.in-Ok.end c.in-Ok.ensures.ok).seat_is

pub returns-in-Ok-clause-room : goal.returns-in-Ok-clause-room
returns-in-Ok-clause-room g c =
    let m = c.args.caller.now in
    let n = c.serve.new.machine in
    (served_same (length g.N.DeskName.cells) g.P.Plans.fits_map g.P.Plans.slot_count g.N.DeskName.origin
    (standing m.pass.ghost_name m.spares.ghost_name m.pass.now m.spares.now.items m.may m.form m.tag m.begun m.replies)
    (standing n.pass.ghost_name n.spares.ghost_name n.pass.now n.spares.now.items n.may n.form n.tag n.begun n.replies)
    (λ a r b. Unit {0}) (λ a r b. ⊥) c.args.lines.now c.serve.new.lines (g.W.Write.contents c.args.writer.now) (g.W.Write.contents c.serve.new.writer) tt tt c.requires.begun c.requires.tag c.in-Ok.end c.in-Ok.ensures.ok).room_is

pub returns-in-Ok-clause-ok : goal.returns-in-Ok-clause-ok
returns-in-Ok-clause-ok g c =
    let m = c.args.caller.now in
    let n = c.serve.new.machine in
    rw c.end_of.ensures
    (served_so (length g.N.DeskName.cells) g.P.Plans.fits_map g.P.Plans.slot_count g.N.DeskName.origin
    (standing m.pass.ghost_name m.spares.ghost_name m.pass.now m.spares.now.items m.may m.form m.tag m.begun m.replies)
    (standing n.pass.ghost_name n.spares.ghost_name n.pass.now n.spares.now.items n.may n.form n.tag n.begun n.replies)
    (λ a r b. Unit {0}) (λ a r b. ⊥) c.args.lines.now c.serve.new.lines (g.W.Write.contents c.args.writer.now) (g.W.Write.contents c.serve.new.writer) tt tt c.requires.begun c.requires.tag c.in-Ok.end c.in-Ok.ensures.ok c.requires.replies)

pub returns-in-Ok-clause-output : goal.returns-in-Ok-clause-output
returns-in-Ok-clause-output g c =
    let m = c.args.caller.now in
    let n = c.serve.new.machine in
    rw c.end_of.ensures
    (λ history begins. outputs_of m.may (length g.N.DeskName.cells) g.P.Plans.fits_map g.P.Plans.slot_count g.N.DeskName.origin.site.grid (receipt_text m.form g.N.DeskName.origin history) m.tag c.args.lines.now c.serve.new.lines m.pass.now m.spares.now.items
    n.pass.now n.spares.now.items (g.W.Write.contents c.args.writer.now) (g.W.Write.contents c.serve.new.writer) n.replies (end_of c.in-Ok.end)
    (served_so (length g.N.DeskName.cells) g.P.Plans.fits_map g.P.Plans.slot_count g.N.DeskName.origin
    (standing m.pass.ghost_name m.spares.ghost_name m.pass.now m.spares.now.items m.may m.form m.tag m.begun m.replies)
    (standing n.pass.ghost_name n.spares.ghost_name n.pass.now n.spares.now.items n.may n.form n.tag n.begun n.replies)
    (λ a r b. Unit {0}) (λ a r b. ⊥) c.args.lines.now c.serve.new.lines (g.W.Write.contents c.args.writer.now) (g.W.Write.contents c.serve.new.writer) tt tt c.requires.begun c.requires.tag c.in-Ok.end c.in-Ok.ensures.ok c.requires.replies history begins))

pub returns-in-Err-clause-seat : goal.returns-in-Err-clause-seat
returns-in-Err-clause-seat g c =
    let m = c.args.caller.now in
    let n = c.serve.new.machine in
    (stopped_as (length g.N.DeskName.cells) g.P.Plans.fits_map g.P.Plans.slot_count g.N.DeskName.origin
    (standing m.pass.ghost_name m.spares.ghost_name m.pass.now m.spares.now.items m.may m.form m.tag m.begun m.replies)
    (standing n.pass.ghost_name n.spares.ghost_name n.pass.now n.spares.now.items n.may n.form n.tag n.begun n.replies)
    (λ a r b. Unit {0}) (λ a r b. ⊥) c.args.lines.now c.serve.new.lines (g.W.Write.contents c.args.writer.now) (g.W.Write.contents c.serve.new.writer) tt tt c.requires.begun c.requires.tag (λ a r b p. p) c.in-Err.fault c.in-Err.ensures.fault).seat_is

pub returns-in-Err-clause-room : goal.returns-in-Err-clause-room
returns-in-Err-clause-room g c =
    let m = c.args.caller.now in
    let n = c.serve.new.machine in
    (stopped_as (length g.N.DeskName.cells) g.P.Plans.fits_map g.P.Plans.slot_count g.N.DeskName.origin
    (standing m.pass.ghost_name m.spares.ghost_name m.pass.now m.spares.now.items m.may m.form m.tag m.begun m.replies)
    (standing n.pass.ghost_name n.spares.ghost_name n.pass.now n.spares.now.items n.may n.form n.tag n.begun n.replies)
    (λ a r b. Unit {0}) (λ a r b. ⊥) c.args.lines.now c.serve.new.lines (g.W.Write.contents c.args.writer.now) (g.W.Write.contents c.serve.new.writer) tt tt c.requires.begun c.requires.tag (λ a r b p. p) c.in-Err.fault c.in-Err.ensures.fault).room_is

pub returns-in-Err-clause-fault : goal.returns-in-Err-clause-fault
returns-in-Err-clause-fault g c =
    let m = c.args.caller.now in
    let n = c.serve.new.machine in
    rw c.give_up.ensures
    (stopped_so (length g.N.DeskName.cells) g.P.Plans.fits_map g.P.Plans.slot_count g.N.DeskName.origin
    (standing m.pass.ghost_name m.spares.ghost_name m.pass.now m.spares.now.items m.may m.form m.tag m.begun m.replies)
    (standing n.pass.ghost_name n.spares.ghost_name n.pass.now n.spares.now.items n.may n.form n.tag n.begun n.replies)
    (λ a r b. Unit {0}) (λ a r b. ⊥) c.args.lines.now c.serve.new.lines (g.W.Write.contents c.args.writer.now) (g.W.Write.contents c.serve.new.writer) tt tt c.requires.begun c.requires.tag (λ a r b p. p) c.in-Err.fault c.in-Err.ensures.fault)
