use Rattle.std.proofs.Common.{ap, subst, sym, ◌∙◌}
use Rattle.wh_board.specs.Pasts.{Known}
use Rattle.wh_desk.specs.Kept.{PassKeeps}
use Rattle.wh_desk.specs.Lists.{last_position}
use Rattle.wh_desk.proofs.pass.Pass.over.Goals as goal

pub invariant_of-result : goal.invariant_of-result
invariant_of-result g c =
    let r = c.requires in
    subst (λ (front : Known). PassKeeps g.N.DeskName.origin g.N.DeskName.cells g.N.DeskName.book g.N.DeskName.callers c.args.caller c.args.own.last c.args.known c.args.own.held.items front) (sym c.again.ensures)
    (record {
      caller_within = r.within;
      last_is = r.own.last_is ∙ ap (λ l. last_position l) (sym r.own.receipts);
      book_is = r.book;
      run = r.run;
      long_is = r.known;
      all = r.own.receipts;
      notes = r.own.notes;
    })
