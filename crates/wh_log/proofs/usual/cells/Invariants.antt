use Rattle.std.proofs.Common.{◌≡◌, List, [], ◌∷◌, ◌++◌, length, map}
use Rattle.wh_grid.specs.declared.cell.Cell.{Cell}
use Rattle.wh_log.specs.Ranges.{IsPath}
use Rattle.wh_log.specs.Spaced.{spaced}
use Rattle.wh_log.specs.Spelling.{cell_word}
use Rattle.wh_log.proofs.usual.cells.Given as goal

abbrev pub invariant-loop-rest : goal.invariant-loop-rest
invariant-loop-rest l =
    record {
      text : 32 ∷ l.fn.text ≡ spaced (map cell_word l.path) ++ l.rest;
      ends : (front : List Cell) × (l.path ≡ front ++ l.last ∷ []);
      path : IsPath l.path;
    }

abbrev pub decreases-loop-rest : goal.decreases-loop-rest
decreases-loop-rest l = length l.rest
