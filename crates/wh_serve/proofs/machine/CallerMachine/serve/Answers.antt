use Rattle.std.proofs.Common.{refl, ap, length, rules, Bool}
use Rattle.wh_replay.specs.Answers.{text_of}
use Rattle.wh_lines.specs.Text.{short_line}
use Rattle.wh_serve.specs.Machines.{standing}
use Rattle.wh_serve.specs.Tellings.{texts}
use Rattle.wh_serve.proofs.Clocks.{texts_few}
use Rattle.wh_serve.proofs.Telling.{served_from, halted_from, dropped_from, counted_on}
use Rattle.wh_serve.proofs.machine.CallerMachine.serve.Goals as goal

pub returns-after-full_of-clause-ok : goal.returns-after-full_of-clause-ok
returns-after-full_of-clause-ok g c =
    let m = c.args.self.now in
    served_from (length g.N.DeskName.cells) g.P.Plans.fits_map g.P.Plans.slot_count g.N.DeskName.origin (short_line c.args.line.now)
    (standing m.pass.ghost_name m.spares.ghost_name m.pass.now m.spares.now.items m.may m.form m.tag m.begun m.replies)
    (standing m.pass.ghost_name m.spares.ghost_name c.answer.new.pass c.answer.new.spares.items m.may m.form m.tag m.begun c.saturating_add-self.result)
    (search rules) (record { seat_is = refl; room_is = refl; may_is = refl; form_is = refl; tag_is = refl })
    (texts m.form m.told.now) (texts m.form c.in-Ok.told) c.requires.room c.in-Ok.ensures.ok (texts_few m.form c.in-Ok.told)
    (counted_on m.replies c.count_of.result c.saturating_add-self.result (texts m.form c.in-Ok.told) (c.count_of.ensures m.form) c.saturating_add-self.ensures) (search rules)

pub returns-in-Err-clause-err : goal.returns-in-Err-clause-err
returns-in-Err-clause-err g c =
    let m = c.args.self.now in
    halted_from (length g.N.DeskName.cells) g.P.Plans.fits_map g.P.Plans.slot_count g.N.DeskName.origin (short_line c.args.line.now)
    (standing m.pass.ghost_name m.spares.ghost_name m.pass.now m.spares.now.items m.may m.form m.tag m.begun m.replies)
    (standing m.pass.ghost_name m.spares.ghost_name c.answer.new.pass c.answer.new.spares.items m.may m.form m.tag m.begun m.replies)
    (search rules) (record { seat_is = refl; room_is = refl; may_is = refl; form_is = refl; tag_is = refl })
    c.in-Err.field-0 c.in-Err.ensures.lost

pub returns-then-self-clause-ok : goal.returns-then-self-clause-ok
returns-then-self-clause-ok g c =
    let m = c.args.self.now in
    dropped_from (length g.N.DeskName.cells) g.P.Plans.fits_map g.P.Plans.slot_count g.N.DeskName.origin (short_line c.args.line.now)
    (standing m.pass.ghost_name m.spares.ghost_name m.pass.now m.spares.now.items m.may m.form m.tag m.begun m.replies)
    (standing m.pass.ghost_name m.spares.ghost_name m.pass.now m.spares.now.items m.may m.form m.tag c.begins_at-self.result m.replies)
    (search rules) (ap (λ (b : Bool). standing m.pass.ghost_name m.spares.ghost_name m.pass.now m.spares.now.items m.may m.form m.tag b m.replies) c.begins_at-self.ensures)
    (text_of (texts m.form m.told.now))

pub returns-then-not-is_empty-clause-ok : goal.returns-then-not-is_empty-clause-ok
returns-then-not-is_empty-clause-ok g c =
    let m = c.args.self.now in
    dropped_from (length g.N.DeskName.cells) g.P.Plans.fits_map g.P.Plans.slot_count g.N.DeskName.origin (short_line c.args.line.now)
    (standing m.pass.ghost_name m.spares.ghost_name m.pass.now m.spares.now.items m.may m.form m.tag m.begun m.replies)
    (standing m.pass.ghost_name m.spares.ghost_name m.pass.now m.spares.now.items m.may m.form m.tag c.begins_at-self.result m.replies)
    (search rules) (ap (λ (b : Bool). standing m.pass.ghost_name m.spares.ghost_name m.pass.now m.spares.now.items m.may m.form m.tag b m.replies) c.begins_at-self.ensures)
    (text_of (texts m.form m.told.now))

pub returns-else-not-is_empty-clause-ok : goal.returns-else-not-is_empty-clause-ok
returns-else-not-is_empty-clause-ok g c =
    let m = c.args.self.now in
    dropped_from (length g.N.DeskName.cells) g.P.Plans.fits_map g.P.Plans.slot_count g.N.DeskName.origin (short_line c.args.line.now)
    (standing m.pass.ghost_name m.spares.ghost_name m.pass.now m.spares.now.items m.may m.form m.tag m.begun m.replies)
    (standing m.pass.ghost_name m.spares.ghost_name m.pass.now m.spares.now.items m.may m.form m.tag c.begins_at-self.result m.replies)
    (search rules) (ap (λ (b : Bool). standing m.pass.ghost_name m.spares.ghost_name m.pass.now m.spares.now.items m.may m.form m.tag b m.replies) c.begins_at-self.ensures)
    (text_of (texts m.form m.told.now))
