use Rattle.wh_lines.proofs.Written.{front_rest}
use Rattle.wh_lines.proofs.output.write_all.Goals as goal

pub returns-clause-err : goal.returns-clause-err
returns-clause-err g c =
    let told = g.W.Write.contents in
    front_rest c.write_parts.result (told c.args.writer.now) (told c.write_front.new.writer) (told c.write_parts.new.writer) c.args.bytes.now c.in_ok-first.first c.in_ok-first.ensures.ok c.write_parts.ensures.err
