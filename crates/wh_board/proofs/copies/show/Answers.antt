use Rattle.std.proofs.Common.{ap, ◌∙◌}
use Rattle.wh_board.proofs.OneBook.{meets}
use Rattle.wh_board.proofs.copies.show.Goals as goal

pub publish_as-writer-requires : goal.publish_as-writer-requires
publish_as-writer-requires g c next is = meets _ _ c.args.writer.desk.shown.value next (ap (λ k. k.book) is ∙ c.requires)
