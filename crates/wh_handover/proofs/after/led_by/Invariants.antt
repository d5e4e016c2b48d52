use Rattle.std.proofs.Common.{◌≡◌, take}
use Rattle.wh_core.specs.Steps.{Run}
use Rattle.wh_handover.proofs.after.led_by.Given as goal

abbrev pub invariant-loop-n : goal.invariant-loop-n
invariant-loop-n l = record {
  site : l.judge.site ≡ l.book.site;
  run : Run l.book.site l.book.opening (take l.n l.book.history) l.judge.state;
}
