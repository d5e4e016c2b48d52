use Rattle.wh_lines.specs.Text.{short_line}
use Rattle.wh_replay.proofs.Scripting.{served_line}
use Rattle.wh_replay.proofs.scripted.ScriptMachine.serve.Goals as goal

pub returns-clause-ok : goal.returns-clause-ok
returns-clause-ok g c s h =
    let m = c.args.self.now in
    let a = c.answer_line-answer in
    served_line g.P.Plans.fits_map g.P.Plans.slot_count (short_line c.args.line.now) m.warehouse.now.book m.spares.now.items a.new.warehouse.book a.new.spares.items a.result m.asker a.ensures.answers
    m.warehouse.ghost_name m.spares.ghost_name m.most a.ensures.few m.replies c.note-self.result c.note-self.ensures.counted m.first m.clock (g.A.Answers.waiting m.answers) (g.A.Answers.waiting c.note-self.new.answers) c.note-self.ensures.waits s h
