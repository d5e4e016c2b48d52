use Rattle.std.proofs.Common.{ap, ◌∙◌, take, arith}
use borrow.Rule.Slice.PartMut.{put_mid}
use Rattle.wh_lines.proofs.Room.{front_kept}
use Rattle.wh_lines.proofs.command_line.CommandLine.keep_front.Goals as goal

pub returns : goal.returns
returns c =
    ap (λ ys. take c.args.count (put_mid 0 32 c.self.inside.bytes ys)) c.copy_from_slice.ensures.after
    ∙ front_kept c.self.inside.bytes c.args.text.now 32 c.args.count 32 c.self.told (omega arith) (omega arith)
