use Rattle.std.proofs.Common.{rules, sym, None, Some, append-nil}
use Rattle.wh_text.specs.Lines.{lines_of}
use Rattle.wh_edge.proofs.Scripts.{reads_line}
use Rattle.wh_edge.proofs.work.commands_of.Goals as goal

pub loop-line-preserved-in-Ok-None : goal.loop-line-preserved-in-Ok-None
loop-line-preserved-in-Ok-None c =
    let ends = c.in-Some.ensures.end in
    reads_line (lines_of c.args.script.now) c.loop-line.lines c.next_line.new.self c.in-Some.line.now None c.loop-line.commands.items c.loop-line.commands.items
    c.loop-line.invariant ends.0 ends.1 (search rules) (sym (append-nil c.loop-line.commands.items))

pub loop-line-preserved : goal.loop-line-preserved
loop-line-preserved c =
    let ends = c.in-Some.ensures.end in
    reads_line (lines_of c.args.script.now) c.loop-line.lines c.next_line.new.self c.in-Some.line.now (Some c.in-Ok-Some.command) c.loop-line.commands.items c.push.new.self.items
    c.loop-line.invariant ends.0 ends.1 (search rules) (search rules)
