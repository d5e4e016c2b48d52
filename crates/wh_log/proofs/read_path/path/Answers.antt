use Rattle.std.proofs.Common.{◌≡◌, ℕ, List, [], ◌∷◌, ◌++◌, sym, ap, ◌∙◌}
use Rattle.wh_log.specs.Reading.{path_of, cells_of}
use Rattle.wh_log.proofs.Loops.{with_cells, cells_start, cells_go, cells_fault, cells_done, path_fault, path_cut}
use Rattle.wh_log.proofs.read_path.path.Goals as goal

pub returns-in_default : goal.returns-in_default
returns-in_default c = ap path_of c.in_default.ensures.0 ∙ path_cut

pub returns-in_default-cell : goal.returns-in_default-cell
returns-in_default-cell c = ap path_of c.in-Some.ensures ∙ path_fault c.in-Some.word.now c.next_word.new.self (sym c.cell.ensures ∙ c.in_default-cell.is)

pub loop-word-init : goal.loop-word-init
loop-word-init c =
    let path : c.in_ok-path.path ≡ c.in-Some-cell.first ∷ [] = c.in_ok-path.ensures in
    rw path (cells_start c.in-Some-cell.first c.in-Some.word.now c.next_word.new.self (sym c.cell.ensures ∙ c.in-Some-cell.is) ∙ ap path_of (sym c.in-Some.ensures))

pub returns-in_default-next_cell : goal.returns-in_default-next_cell
returns-in_default-next_cell c =
    cells_fault c.loop-word.path c.loop-word.last c.in-Some-next_word.word.now c.next_word-in-loop-word.new.self (path_of c.args.words) (sym c.next_cell.ensures ∙ c.in_default-next_cell.is)
    (ap (λ (words : List (List ℕ)). with_cells c.loop-word.path (cells_of c.loop-word.last words)) (sym c.in-Some-next_word.ensures) ∙ c.loop-word.invariant)

pub loop-word-preserved : goal.loop-word-preserved
loop-word-preserved c =
    let longer : c.push.new.self ≡ c.loop-word.path ++ c.in-Some-next_cell.cell ∷ [] = c.in_ok-push.ensures.ok in
    rw longer (cells_go c.loop-word.path c.loop-word.last c.in-Some-next_word.word.now c.next_word-in-loop-word.new.self c.in-Some-next_cell.cell (path_of c.args.words) (sym c.next_cell.ensures ∙ c.in-Some-next_cell.is)
    (ap (λ (words : List (List ℕ)). with_cells c.loop-word.path (cells_of c.loop-word.last words)) (sym c.in-Some-next_word.ensures) ∙ c.loop-word.invariant))

pub returns : goal.returns
returns c =
    cells_done c.loop-word.path c.loop-word.last (path_of c.args.words)
    (ap (λ (words : List (List ℕ)). with_cells c.loop-word.path (cells_of c.loop-word.last words)) (sym c.in_default-next_word.ensures.0) ∙ c.loop-word.invariant)
