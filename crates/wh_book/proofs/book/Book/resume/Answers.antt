use Rattle.wh_book.specs.Openings.{opening_of}
use Rattle.wh_book.proofs.Kept.{kept-begins}
use Rattle.wh_book.proofs.book.Book.resume.Goals as goal

pub has_stray-strays-requires : goal.has_stray-strays-requires
has_stray-strays-requires c =
    kept-begins c.args.setting (opening_of c.args.setting.layout c.args.first) c.args.history.items c.args.floor.state (record { begins = c.requires.opening; run = c.requires.run })

pub invariant_of-result : goal.invariant_of-result
invariant_of-result c = record {
  kept = record { begins = c.requires.opening; run = c.requires.run };
  ways = c.has_stray-strays.ensures;
}
