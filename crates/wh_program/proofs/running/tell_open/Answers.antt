use Rattle.wh_program.proofs.Opened.{tells_none, tells_some}
use Rattle.wh_program.proofs.Whole.{shown}
use Rattle.wh_program.proofs.running.tell_open.Goals as goal

pub returns-then-is_empty : goal.returns-then-is_empty
returns-then-is_empty g c = tells_none c.args.report.now _ _ c.is_empty.ensures c.if-is_empty.true

pub returns : goal.returns
returns g c =
    let had = g.E.Write.contents c.args.errors.now in
    let has = g.E.Write.contents c.write_text-shown.new.output in
    tells_some c.args.report.now had has _ c.is_empty.ensures c.if-is_empty.false
    (shown c.write_text-shown.result had has c.args.report.now c.write_text-shown.ensures.ok c.write_text-shown.ensures.front)
