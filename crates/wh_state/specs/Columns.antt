-- the columns of a state in code
use Rattle.wh_core.specs.States.{State}
use Rattle.wh_state.specs.declared.parts.StateParts.{StateParts}

-- the state that the columns hold
abbrev pub state_in : StateParts → State
state_in columns = record {
  clock = columns.clock;
  closed = columns.closed;
  paths = columns.paths.items;
  loads = columns.loads.items;
  slots = columns.slots.items;
  tasks = columns.tasks.items;
}
