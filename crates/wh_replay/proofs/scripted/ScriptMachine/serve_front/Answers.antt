use Rattle.std.proofs.Common.{Some}
use Rattle.wh_lines.specs.Text.{short_line}
use Rattle.wh_replay.proofs.Scripting.{served_line, front_line, front_answers}
use Rattle.wh_replay.proofs.scripted.ScriptMachine.serve_front.Goals as goal

pub returns-in-Some-clause-some : goal.returns-in-Some-clause-some
returns-in-Some-clause-some g c =
    let m = c.args.self.now in
    let a = c.run-answer in
    let f = c.in-Some.ensures.some in (
      f.line,
      front_line c.read_front_into.new.command c.in-Some.count c.args.waiting.now f,
      λ s h. served_line g.P.Plans.fits_map g.P.Plans.slot_count (short_line f.line) m.warehouse.now.book m.spares.now.items a.new.warehouse.book a.new.spares.items (Some a.result) m.asker
          (front_answers g.P.Plans.fits_map g.P.Plans.slot_count c.read_front_into.new.command c.in-Some.count c.args.waiting.now f m.warehouse.now.book m.spares.now.items a.new.warehouse.book a.new.spares.items (Some a.result) m.asker.caller a.ensures.answers)
          m.warehouse.ghost_name m.spares.ghost_name m.most a.ensures.few m.replies c.note-self.result c.note-self.ensures.counted m.first m.clock (g.A.Answers.waiting m.answers) (g.A.Answers.waiting c.note-self.new.answers) c.note-self.ensures.waits s h,
    )
