use Rattle.std.specs.Prelude.{◌≡◌, List, All, IsTrue, false, not, count_by}
use Rattle.wh_delivery.specs.Turns.{IsRoundSoFar, no_path}
use Rattle.wh_event.specs.declared.entry.Entry.{Entry}
use Rattle.wh_delivery.specs.Deliveries.{AreInVain, GoesOn, HaveAsked}
use Rattle.wh_delivery.proofs.deliver.ask_all.Given as goal

abbrev pub invariant-loop-agent : goal.invariant-loop-agent
invariant-loop-agent g l = record {
  asked : (added : List Entry) × GoesOn l.fn.caller l.fn.warehouse.book added l.warehouse.book
      × IsRoundSoFar l.fn.warehouse.book.site l.fn.warehouse.book.state added l.warehouse.book.state
      × HaveAsked l.fn.warehouse.book.site l.fn.warehouse.book.state l.asked.items l.some added l.warehouse.book.state
      × (IsTrue l.in_vain → AreInVain l.fn.warehouse.book.site l.fn.warehouse.book.state added l.warehouse.book.state)
      × (l.in_vain ≡ false → ¬ All (λ entry. entry.reply ≡ no_path) added);
}

-- those that have not asked
abbrev pub decreases-loop-agent : goal.decreases-loop-agent
decreases-loop-agent g l = count_by not l.asked.items
