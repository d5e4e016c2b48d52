-- the text of a board
use Rattle.std.specs.Prelude.{ℕ, List, ◌∷◌, ◌++◌, [], codes, decimal, map}
use Rattle.wh_words.specs.Lines.{text_of}
use Rattle.wh_tasks.specs.declared.task.Load.{Load}
use Rattle.wh_tasks.specs.declared.task.Load.TheVariants as load
use Rattle.wh_log.specs.Spelling.{cell_word}
use Rattle.wh_board.specs.declared.board.Board.{Board}
use Rattle.wh_board.specs.declared.board.Shown.{Shown}

-- what an agent has to do: nothing, a task to fetch, or a task of which it has visited this many stops
abbrev pub load_text : Load → List ℕ
load_text load.None = codes "none"
load_text (load.Fetching task) = codes "fetching " ++ decimal task
load_text (load.Carrying task visited) = codes "carrying " ++ (decimal task ++ 32 ∷ decimal visited)

-- X,Y STEPS LOAD
abbrev pub agent_line : Shown → List ℕ
agent_line shown = cell_word shown.cell ++ 32 ∷ (decimal shown.steps_left ++ 32 ∷ load_text shown.load)

-- the counts of a board, each behind its word
abbrev pub count_lines : Board → List (List ℕ)
count_lines board =
    (codes "entries " ++ decimal board.entries) ∷ (codes "clock " ++ decimal board.clock) ∷ (codes "open " ++ decimal board.open_tasks)
    ∷ (codes "assigned " ++ decimal board.assigned) ∷ (codes "carried " ++ decimal board.carried) ∷ (codes "done " ++ decimal board.done) ∷ []

-- The version of the text, the counts, and a line for each agent, in the agents' order. Each line ends in a line feed.
abbrev pub board_text : Board → List ℕ
board_text board = text_of (codes "wboard 1" ∷ (count_lines board ++ map agent_line board.agents.items))
