use Rattle.std.proofs.Common.{◌≡◌}
use Rattle.wh_board.specs.Pasts.{Extends}
use Rattle.wh_display.proofs.Sights.{Watching}
use Rattle.wh_display.proofs.watching.watch.Given as goal

-- boards were shown that were seen in turn, and the last of them has as many entries as are told
abbrev pub invariant-loop : goal.invariant-loop
invariant-loop g l = record {
  watching : Watching l.fn.viewer.past l.viewer.past l.shown (g.S.Screen.shown l.fn.screen) (g.S.Screen.shown l.screen);
  later : Extends l.fn.viewer.past l.viewer.past;
  book : l.viewer.book ≡ l.fn.viewer.book;
}
