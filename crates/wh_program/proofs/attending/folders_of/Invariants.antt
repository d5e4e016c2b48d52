-- The folders so far are those of the numbers so far.
use Rattle.std.proofs.Common.{◌≡◌, length, map}
use Rattle.std.specs.Prelude.{option_map}
use Rattle.wh_desk.specs.Lists.{AllAt}
use Rattle.wh_program.specs.Attending.{IsFolderAt}
use Rattle.wh_program.proofs.attending.folders_of.Given as goal

abbrev pub invariant-loop-number : goal.invariant-loop-number
invariant-loop-number l = record {
  size : length l.folders.items ≡ l.number;
  each : AllAt (IsFolderAt l.clients) (map (λ folder. option_map (λ s. s.now) folder) l.folders.items);
}
