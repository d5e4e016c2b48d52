-- Who bars a task.
use Rattle.std.proofs.Common.{◌≡◌, ◌<◌, ◌+◌, ◌∙◌, ℕ, List, ◌++◌, append_assoc, length, drop, get_or, sym, ap}
use Rattle.std.proofs.lemmas.List.{drop_more}
use Rattle.wh_grid.specs.declared.cell.Cell.{Cell}
use Rattle.wh_tasks.specs.declared.task.Task.{Task}
use Rattle.wh_deliver.specs.OpenOrders.{barring, line_of, lines_from, pair}

-- ---- the next agent

module _ (task : Task) (paths : List (List Cell)) (from : ℕ) where
  abbrev pub Rest : ℕ → Type 0
  Rest agent = barring task from (drop from paths) ≡ barring task agent (drop agent paths)

-- ---- the lines

pub lines_more : (paths : List (List Cell)) (tasks : List Task) (n : ℕ) (task : Task) (out more : List ℕ) (whole : List ℕ) → n < length tasks → task ≡ get_or tasks n task
    → out ++ lines_from paths n (drop n tasks) ≡ whole → more ≡ out ++ line_of n (pair paths task) → more ++ lines_from paths (n + 1) (drop (n + 1) tasks) ≡ whole
lines_more paths tasks n task out more whole below is so adds =
    ap (λ (l : List ℕ). l ++ lines_from paths (n + 1) (drop (n + 1) tasks)) adds
    ∙ append_assoc out (line_of n (pair paths task)) (lines_from paths (n + 1) (drop (n + 1) tasks))
    ∙ ap (λ (t : Task). out ++ (line_of n (pair paths t) ++ lines_from paths (n + 1) (drop (n + 1) tasks))) is
    ∙ ap (λ (ts : List Task). out ++ lines_from paths n ts) (sym (drop_more tasks n task below))
    ∙ so
