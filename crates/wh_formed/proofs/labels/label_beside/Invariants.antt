use Rattle.std.proofs.Common.{◌≤◌, ◌+◌, take, All}
use Rattle.wh_formed.specs.Fills.{IsMarked}
use Rattle.wh_formed.specs.Labels.{AreParts, IsNumbered}
use Rattle.wh_formed.proofs.labels.label_beside.Given as goal

abbrev pub invariant-loop-next : goal.invariant-loop-next
invariant-loop-next l =
    record {
      parts : AreParts l.grid (IsMarked l.grid l.open_cells) l.fill.marks.numbers;
      own : IsMarked l.grid l.open_cells l.fn.cell → IsNumbered l.grid l.fill.marks.numbers l.fn.cell;
      near : All (λ r. IsMarked l.grid l.open_cells r → IsNumbered l.grid l.fill.marks.numbers r) (take l.next-index l.next-items);
      few : l.fill.marks.current ≤ l.fn.fill.marks.current + 1 + l.next-index;
    }
