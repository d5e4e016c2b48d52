use Rattle.std.proofs.Common.{refl, ◌∙◌}
use Rattle.wh_board.proofs.Chains.{extends_self, extends_trans}
use Rattle.wh_display.proofs.Sights.{watches_all, watches_some, watching_fails, watching_looks, watching_none}
use Rattle.wh_display.proofs.watching.watch.Goals as goal

pub loop-init : goal.loop-init
loop-init g c = record {
  watching = watching_none c.args.viewer.now.past c.args.shown (g.S.Screen.shown c.args.screen.now) c.requires;
  later = extends_self c.args.viewer.now.past;
  book = refl;
}

pub returns-then-is_last-clause-shows : goal.returns-then-is_last-clause-shows
returns-then-is_last-clause-shows g c =
    watches_all _ _ _ _ _ (watching_looks c.loop.invariant.watching c.in-Ok.ensures.later c.in-Ok.entries c.in-Ok.ensures.ok)

pub returns-then-is_last-clause-later : goal.returns-then-is_last-clause-later
returns-then-is_last-clause-later g c = extends_trans c.args.viewer.now.past c.loop.viewer.past c.refresh.new.viewer.past c.loop.invariant.later c.in-Ok.ensures.later

pub returns-then-is_last-clause-book : goal.returns-then-is_last-clause-book
returns-then-is_last-clause-book g c = c.in-Ok.ensures.book ∙ c.loop.invariant.book

pub loop-preserved-else-is_last : goal.loop-preserved-else-is_last
loop-preserved-else-is_last g c =
    let looks = watching_looks c.loop.invariant.watching c.in-Ok.ensures.later c.in-Ok.entries c.in-Ok.ensures.ok in
    record {
      watching = looks.watching;
      later = extends_trans c.args.viewer.now.past c.loop.viewer.past c.refresh.new.viewer.past c.loop.invariant.later c.in-Ok.ensures.later;
      book = c.in-Ok.ensures.book ∙ c.loop.invariant.book;
    }

pub returns-then-is_last-2-clause-shows : goal.returns-then-is_last-2-clause-shows
returns-then-is_last-2-clause-shows g c =
    watches_some _ _ _ _ _ _ (watching_fails c.loop.invariant.watching c.in-Err.ensures.later c.in-Err.ensures.err)

pub returns-then-is_last-2-clause-later : goal.returns-then-is_last-2-clause-later
returns-then-is_last-2-clause-later g c = extends_trans c.args.viewer.now.past c.loop.viewer.past c.refresh.new.viewer.past c.loop.invariant.later c.in-Err.ensures.later

pub returns-then-is_last-2-clause-book : goal.returns-then-is_last-2-clause-book
returns-then-is_last-2-clause-book g c = c.in-Err.ensures.book ∙ c.loop.invariant.book

pub loop-preserved : goal.loop-preserved
loop-preserved g c = record {
  watching = watching_fails c.loop.invariant.watching c.in-Err.ensures.later c.in-Err.ensures.err;
  later = extends_trans c.args.viewer.now.past c.loop.viewer.past c.refresh.new.viewer.past c.loop.invariant.later c.in-Err.ensures.later;
  book = c.in-Err.ensures.book ∙ c.loop.invariant.book;
}
