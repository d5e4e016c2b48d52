use Rattle.std.proofs.Common.{◌+◌, ap, ◌∙◌, take, ◌++◌, arith, ◌-◌}
use borrow.Rule.Slice.PartMut.{put_mid}
use Rattle.wh_lines.proofs.Room.{added}
use Rattle.wh_lines.proofs.command_line.CommandLine.add.Goals as goal

pub returns : goal.returns
returns c =
    let kept = c.self.inside.length in
    let count = c.if-piece-room.count in
    ap (λ ys. take (kept + count) (put_mid kept (kept + count - kept) c.self.inside.bytes ys)) c.copy_from_slice.ensures.after
    ∙ added c.self.inside.bytes c.args.piece.now kept count c.self.told (omega arith) (omega arith) (omega arith) (λ less. omega (arith, less))
    ∙ ap (λ xs. take 258 (xs ++ c.args.piece.now)) c.self.view_is
