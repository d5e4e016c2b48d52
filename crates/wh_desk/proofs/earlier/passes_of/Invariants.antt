use Rattle.std.proofs.Common.{◌≡◌, ◌+◌, length}
use Rattle.std.specs.List.{All}
use Rattle.std.specs.Vec.Iter.{into_iter_items}
use Rattle.wh_desk.specs.Lists.{AllAt, entries_of}
use Rattle.wh_desk.specs.Earlier.{OwnOf}
use Rattle.wh_desk.proofs.earlier.passes_of.Given as goal

-- the passes so far, and what the callers from there on have
abbrev pub invariant-loop-caller : goal.invariant-loop-caller
invariant-loop-caller g l = record {
  left : length (into_iter_items l.rest) + l.caller ≡ l.fn.callers;
  owns : AllAt (λ i own. OwnOf g.N.DeskName.cells (entries_of l.front.past.history (l.caller + i)) own) (into_iter_items l.rest);
  count : length l.passes.items ≡ l.caller;
  order : AllAt (λ k p. p.caller ≡ k) l.passes.items;
  lists : All (λ p. p.list ≡ entries_of l.front.past.history p.caller) l.passes.items;
  known : All (λ p. p.known ≡ l.front.past.history) l.passes.items;
}
