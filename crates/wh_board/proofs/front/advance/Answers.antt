use Rattle.std.proofs.Common.{ap, sym, ◌∙◌}
use Rattle.wh_board.proofs.Adding.{adds_moves}
use Rattle.wh_board.proofs.front.advance.Goals as goal

pub compare_exchange-found-requires : goal.compare_exchange-found-requires
compare_exchange-found-requires c =
    let h = c.requires.word in
    let book = sym (ap (λ w. w.book) h) in
    let pen = c.no_pen-pen.ensures in (
      ap (λ w. w.tracked) h,
      book,
      pen.0 ∙ book,
      c.requires.names,
      rw (ap (λ w. w.key) h, pen.1, c.requires.state) (adds_moves c.args.seen.now.log c.args.offer.now.ask c.args.number c.requires.long c.requires.longer),
    )
