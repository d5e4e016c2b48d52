-- with what a book begins
use Rattle.wh_points.specs.Points.{Layout}
use Rattle.wh_core.specs.States.{State, opened}
use Rattle.wh_state.specs.Columns.{state_in}
use Rattle.wh_book.specs.declared.opening.Opening.{Opening}

-- the state with which it begins
abbrev pub opening_of : Layout → Opening → State
opening_of layout (Opening.Starts clock slots) = opened layout clock slots.items
opening_of layout (Opening.State parts) = state_in parts
