-- commands and their events
use Rattle.wh_event.specs.declared.event.Spare.{Spare}
use Rattle.wh_event.specs.declared.event.Event.{Event}
use Rattle.wh_event.specs.declared.event.Command.{Command}

-- the event of a command, with what is told of the spare planner
abbrev pub event_of : Command → Spare → Event
event_of (Command.Submit client stops) spare = Event.Submit client stops
event_of (Command.Token agent) spare = Event.Request agent
event_of Command.Tick spare = Event.Tick
event_of (Command.Replace agent) spare = Event.Replace agent spare
event_of Command.Close spare = Event.Close
