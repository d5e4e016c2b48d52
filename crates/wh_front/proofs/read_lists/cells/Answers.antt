use Rattle.std.proofs.Common.{ℕ, List, sym, ap, ◌∙◌}
use Rattle.wh_front.specs.Reading.{cells_of}
use Rattle.wh_front.proofs.ReadLoops.{with_front, cells_go, cells_fault, cells_done}
use Rattle.wh_front.proofs.read_lists.cells.Goals as goal

pub returns-in_default-cell : goal.returns-in_default-cell
returns-in_default-cell c =
    cells_fault c.loop-word.cells.items c.in-Some.word.now c.next_word.new.self (cells_of c.args.words) (sym c.cell.ensures ∙ c.in_default-cell.is)
    (ap (λ (words : List (List ℕ)). with_front c.loop-word.cells.items (cells_of words)) (sym c.in-Some.ensures) ∙ c.loop-word.invariant)

pub loop-word-preserved : goal.loop-word-preserved
loop-word-preserved c =
    rw c.in_ok-push.ensures.items (cells_go c.loop-word.cells.items c.in-Some.word.now c.next_word.new.self c.in-Some-cell.cell (cells_of c.args.words) (sym c.cell.ensures ∙ c.in-Some-cell.is)
    (ap (λ (words : List (List ℕ)). with_front c.loop-word.cells.items (cells_of words)) (sym c.in-Some.ensures) ∙ c.loop-word.invariant))

pub returns : goal.returns
returns c =
    cells_done c.loop-word.cells.items (cells_of c.args.words)
    (ap (λ (words : List (List ℕ)). with_front c.loop-word.cells.items (cells_of words)) (sym c.in_default.ensures.0) ∙ c.loop-word.invariant)
