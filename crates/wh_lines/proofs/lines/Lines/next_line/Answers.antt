use Rattle.wh_lines.proofs.Parts.{gathered_at_once}
use Rattle.wh_lines.proofs.lines.Lines.next_line.Goals as goal

pub returns-then-take_short-clause-ok : goal.returns-then-take_short-clause-ok
returns-then-take_short-clause-ok g c =
    let is = c.if-take_short.true in
    gathered_at_once c.args.self.now c.take_short.new.lines c.take_short.new.line (c.take_short.ensures.line is) (c.take_short.ensures.lines is) (c.take_short.ensures.whole is)
