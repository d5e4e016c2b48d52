use Rattle.std.proofs.Common.{◌≡◌, true, take}
use Rattle.std.specs.List.{All}
use mathlib.Core.List.{IsPrefix}
use Rattle.wh_desk.specs.Lists.{entries_of, is_current}
use Rattle.wh_desk.proofs.journal.Journal.knows_all.Given as goal

-- the passes so far have all that their callers did
abbrev pub invariant-loop-each : goal.invariant-loop-each
invariant-loop-each g l =
    All (λ p. p.list ≡ entries_of l.self.history p.caller) (take l.each-index l.passes)
    × All (λ p. is_current l.self.history p ≡ true) (take l.each-index l.passes)
    × All (λ p. IsPrefix p.known l.self.history) (take l.each-index l.passes)
