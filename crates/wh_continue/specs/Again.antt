-- from which entry on a run's entries can be told again
use Rattle.std.specs.Prelude.{◌≡◌, ◌<◌, ◌≤◌, ◌+◌, ℕ, length, Option, Some, IfSome}
use Rattle.wh_continue.specs.Starting.{entries_so_far}
use Rattle.wh_continue.specs.declared.again.AgainFault.{AgainFault}
use Rattle.wh_continue.specs.declared.again.AgainFault.TheVariants.{Earlier, Missing}
use Rattle.wh_continue.specs.declared.starting.Start.{Start}

-- where entries are to be told again from one on, that is in the log, or the next one of the run
abbrev pub CanTellAgain : Option ℕ → Start → Type 0
CanTellAgain again start = IfSome again (λ first. (start.before.entries ≤ first) × (first ≤ entries_so_far start))

-- Why none are told again from the one that is named: it came in a log before, and the first in this one is told; or the run has not come to
-- it, and the line is told with which its log would go on.
abbrev pub IsWhyNotAgain : Option ℕ → Start → AgainFault → Type 0
IsWhyNotAgain again start (Earlier first) = (first ≡ start.before.entries) × ((named : ℕ) × (again ≡ Some named) × (named < first))
IsWhyNotAgain again start (Missing line) =
    (line ≡ start.before.lines + (length start.book.history + 1)) × ((named : ℕ) × (again ≡ Some named) × (entries_so_far start < named))
