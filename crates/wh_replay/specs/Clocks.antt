-- the clocks of a run
use Rattle.std.specs.Prelude.{◌≡◌, List}
use Rattle.wh_points.specs.Points.{Site}
use Rattle.wh_core.specs.States.{State}
use Rattle.wh_core.specs.Steps.{Run}
use Rattle.wh_event.specs.declared.entry.Entry.{Entry}
use Rattle.wh_replay.specs.Answers.{clock_behind}

-- Over a run the entries tell the clock: it is the one of the last tick, or else the clock before them.
abbrev pub ClocksAreTold : Type 0
ClocksAreTold = (site : Site) (old : State) (entries : List Entry) (new : State) → Run site old entries new → new.clock ≡ clock_behind old.clock entries
