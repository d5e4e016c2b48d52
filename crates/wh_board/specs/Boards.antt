-- what a board shows of a history
use Rattle.std.specs.Prelude.{◌≡◌, ℕ, List, Some, length, slice_get}
use Rattle.wh_grid.specs.declared.cell.Cell.{Cell}
use Rattle.wh_path.specs.Paths.{place_of, steps_left}
use Rattle.wh_tasks.specs.declared.task.Load.{Load}
use Rattle.wh_tasks.specs.Changes.{counts_of}
use Rattle.wh_core.specs.States.{State}
use Rattle.wh_core.specs.Steps.{Run}
use Rattle.wh_board.specs.Pasts.{Past}
use Rattle.wh_board.specs.declared.board.Board.{Board}
use Rattle.wh_board.specs.declared.board.Shown.{Shown}

-- the agent of this number is shown: where it is now, what it has to do, and how many steps of its path are left
pub record IsShown (paths : List (List Cell)) (loads : List Load) (agent : ℕ) (shown : Shown) : Type 0 where
  pub cell : shown.cell ≡ place_of paths agent
  pub load : slice_get loads agent ≡ Some shown.load
  pub steps_left_is : shown.steps_left ≡ steps_left paths agent

-- each agent is shown, and no other
pub record AreShown (paths : List (List Cell)) (loads : List Load) (agents : List Shown) : Type 0 where
  pub count : length agents ≡ length paths
  pub each : (agent : ℕ) (shown : Shown) → slice_get agents agent ≡ Some shown → IsShown paths loads agent shown

-- The history is a run from the opening state. The board shows its length, whether paths go on home, and of the state that it leads to
-- the clock, the agents, and how many tasks are in each phase.
pub record IsBoardOf (past : Past) (board : Board) : Type 0 where
  pub state : State
  pub run : Run past.origin.site past.origin.opening past.history state
  pub entries : board.entries ≡ length past.history
  pub clock : board.clock ≡ state.clock
  pub homes : board.homes ≡ past.origin.site.homes
  pub agents : AreShown state.paths state.loads board.agents.items
  pub open_tasks : board.open_tasks ≡ (counts_of state.tasks).open_tasks
  pub assigned : board.assigned ≡ (counts_of state.tasks).assigned
  pub carried : board.carried ≡ (counts_of state.tasks).carried
  pub done : board.done ≡ (counts_of state.tasks).done
