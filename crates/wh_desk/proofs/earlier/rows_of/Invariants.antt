use Rattle.std.proofs.Common.{◌≡◌, length, List, ℕ}
use Rattle.wh_event.specs.declared.entry.Entry.{Entry}
use Rattle.wh_desk.specs.Lists.{AllAt, entries_of}
use Rattle.wh_desk.specs.Kept.{RowOf}
use Rattle.wh_desk.specs.Earlier.{OwnOf}
use Rattle.wh_desk.proofs.earlier.rows_of.Given as goal

-- the rows so far are those of the callers so far
abbrev pub invariant-loop-own : goal.invariant-loop-own
invariant-loop-own l = (length l.rows.items ≡ l.own-index) × ((names : List ℕ) (history : List Entry) → AllAt (λ caller own. OwnOf names (entries_of history caller) own) l.owns → AllAt (λ caller row. RowOf (entries_of history caller) row) l.rows.items)
