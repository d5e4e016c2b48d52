use Rattle.std.proofs.Common.{◌≡◌, ◌+◌, List, ◌++◌, length, take}
use Rattle.std.specs.Prelude.{Option}
use Rattle.wh_token.specs.Runs.{Ran, entries_of}
use Rattle.wh_token.specs.Houses.{StaysAt}
use Rattle.wh_event.specs.declared.entry.Entry.{Entry}
use Rattle.wh_token.proofs.warehouse.Warehouse.run_events.Given as goal

abbrev pub invariant-loop-command : goal.invariant-loop-command
invariant-loop-command g l = record {
  stays : StaysAt l.fn.self.book l.self.book;
  count : l.entries + l.starved ≡ l.command-index;
  ran : (outcomes : List (Option Entry)) × (l.self.book.history ≡ l.fn.self.book.history ++ entries_of outcomes)
      × (length (entries_of outcomes) ≡ l.entries)
      × Ran g.P.Plans.fits_map g.P.Plans.slot_count l.fn.self.book.site l.caller (take l.command-index l.commands) outcomes l.fn.self.book.state l.fn.spares.items l.self.book.state l.spares.items;
}
