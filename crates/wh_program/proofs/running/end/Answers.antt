use Rattle.std.proofs.Common.{◌∙◌}
use Rattle.wh_program.proofs.Whole.{shown, told}
use Rattle.wh_program.proofs.running.end.Goals as goal

pub returns-in-Err : goal.returns-in-Err
returns-in-Err g c =
    let had = g.E.Write.contents c.args.errors.now in
    let has = g.E.Write.contents c.write_text-shown.new.output in
    told c.args.came c.in-Err.trouble c.status.result had has c.as_slice.result.now c.in-Err.is c.status.ensures (c.as_slice.ensures.value ∙ c.text.ensures)
    (shown c.write_text-shown.result had has c.as_slice.result.now c.write_text-shown.ensures.ok c.write_text-shown.ensures.front)
