use Rattle.std.proofs.Common.{◌++◌, refl}
use Rattle.std.proofs.KnownBytes.{Appends-kept}
use Rattle.wh_lines.proofs.Written.{both_parts, in_first, in_second}
use Rattle.wh_continue.proofs.Begun.{front_whole}
use Rattle.wh_continue.proofs.running.write_first.Goals as goal

pub returns-in-Err-clause-front : goal.returns-in-Err-clause-front
returns-in-Err-clause-front g c = in_first _ _ c.args.line.now c.args.text.now _ refl c.in-Err.ensures.err

pub returns-in-Err-write_all-clause-front : goal.returns-in-Err-write_all-clause-front
returns-in-Err-write_all-clause-front g c = in_second _ _ _ c.args.line.now c.args.text.now _ refl c.in-Ok.ensures.ok c.in-Err-write_all.ensures.err

pub returns-in-Err-flush-clause-front : goal.returns-in-Err-flush-clause-front
returns-in-Err-flush-clause-front g c =
    let had = g.W.Write.contents c.args.writer.now in
    let mid = g.W.Write.contents c.write_all.new.writer in
    let has = g.W.Write.contents c.write_all-2.new.writer in
    let both = c.args.line.now ++ c.args.text.now in
    front_whole had (g.W.Write.contents c.flush.new.self) both
    (Appends-kept had has (g.W.Write.contents c.flush.new.self) both
    (both_parts had mid has c.args.line.now c.args.text.now both refl c.in-Ok.ensures.ok c.in-Ok-write_all.ensures.ok) c.in-Err-flush.ensures.bytes)
