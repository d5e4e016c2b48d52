-- worked rows: on one small map, entries that are a run, and entries that are not
use Rattle.std.specs.Prelude.{ℕ, List, [], ◌∷◌, ◌++◌, true, false, replicate}
use Rattle.wh_grid.specs.declared.cell.Cell.{Cell}
use Rattle.wh_points.specs.declared.points.Kind.{Kind}
use Rattle.wh_points.specs.declared.points.Point.{Point}
use Rattle.wh_grid.specs.Grids.{Floor}
use Rattle.wh_points.specs.Points.{Site}
use Rattle.wh_core.specs.States.{State, opened}
use Rattle.wh_core.specs.Steps.{Run}
use Rattle.wh_event.specs.declared.event.Event.{Event}
use Rattle.wh_event.specs.declared.reply.Refusal.{Refusal}
use Rattle.wh_event.specs.declared.reply.Reply.{Reply}
use Rattle.wh_event.specs.declared.entry.Entry.{Entry}

-- the map
--   @.@.@
--   .....
--   @.@.@
abbrev pub map_a : Floor
map_a = record {
  width = 5;
  height = 3;
  walkable =
      false ∷ true ∷ false ∷ true ∷ false
      ∷ true ∷ true ∷ true ∷ true ∷ true
      ∷ false ∷ true ∷ false ∷ true ∷ false ∷ [];
}

-- the cell of these coordinates
abbrev pub cell : ℕ → ℕ → Cell
cell x y = record { x = x; y = y }

-- names, as bytes: A, B, Z, P1, and x of a client
abbrev pub name_a : List ℕ
name_a = 65 ∷ []

abbrev pub name_b : List ℕ
name_b = 66 ∷ []

abbrev pub name_z : List ℕ
name_z = 90 ∷ []

abbrev pub name_p1 : List ℕ
name_p1 = 80 ∷ 49 ∷ []

abbrev pub client_x : List ℕ
client_x = 120 ∷ []

-- parkings P0 and P1 at the sides, stations A and B above, C and D below
abbrev pub points_a : List Point
points_a =
    record { name = 80 ∷ 48 ∷ []; cell = cell 0 1; kind = Kind.Parking }
    ∷ record { name = name_p1; cell = cell 4 1; kind = Kind.Parking }
    ∷ record { name = name_a; cell = cell 1 0; kind = Kind.Station }
    ∷ record { name = name_b; cell = cell 3 0; kind = Kind.Station }
    ∷ record { name = 67 ∷ []; cell = cell 1 2; kind = Kind.Station }
    ∷ record { name = 68 ∷ []; cell = cell 3 2; kind = Kind.Station }
    ∷ []

-- the map with its points, and agents that start at two of them
abbrev pub site_a : ℕ → ℕ → Site
site_a first second =
    record { grid = map_a; layout = record { points = points_a; agents = first ∷ second ∷ []; nofollow = false }; homes = false }

-- an entry of caller 0
abbrev pub entry : Event → Reply → Entry
entry event reply = record { caller = 0; event = event; reply = reply }

-- from the opening state at clock 0 with 4 slots for each of two agents, the entries are a run
abbrev pub IsRunAt : Site → List Entry → Type 0
IsRunAt site entries = (s : State) × Run site (opened site.layout 0 (4 ∷ 4 ∷ [])) entries s

-- An agent that starts at A takes a task from A to A: it is delivered at once.
abbrev pub DeliveredAtOnce : Type 0
DeliveredAtOnce = IsRunAt (site_a 2 1) (
    entry (Event.Submit client_x (name_a ∷ name_a ∷ [])) (Reply.Accepted 0)
    ∷ entry (Event.Request 0) (Reply.Took 0 (cell 1 0 ∷ []))
    ∷ entry (Event.Request 0) Reply.Rested
    ∷ entry Event.Tick (Reply.Clock 1 0 0)
    ∷ [])

-- The stops decide in their order: an unknown name before a parking, a parking before an unknown name.
abbrev pub SubmitRefusals : Type 0
SubmitRefusals = IsRunAt (site_a 0 1) (
    entry (Event.Submit client_x (name_a ∷ name_p1 ∷ name_z ∷ [])) (Reply.Refused (Refusal.NotStation name_p1))
    ∷ entry (Event.Submit client_x (name_a ∷ name_z ∷ name_p1 ∷ [])) (Reply.Refused (Refusal.UnknownPoint name_z))
    ∷ entry (Event.Request 7) (Reply.Refused (Refusal.UnknownAgent 7))
    ∷ [])

-- From P0 by A to B: picked up at clock 2, delivered at clock 6.
abbrev pub OneDelivery : Type 0
OneDelivery = IsRunAt (site_a 0 1) (
    entry (Event.Submit client_x (name_a ∷ name_b ∷ [])) (Reply.Accepted 0)
    ∷ entry (Event.Request 0) (Reply.Took 0 (cell 0 1 ∷ cell 1 1 ∷ cell 1 0 ∷ cell 1 1 ∷ cell 2 1 ∷ cell 3 1 ∷ cell 3 0 ∷ []))
    ∷ entry (Event.Request 0) (Reply.Refused (Refusal.Moving 6))
    ∷ entry Event.Tick (Reply.Clock 1 0 0)
    ∷ entry Event.Tick (Reply.Clock 2 1 0)
    ∷ entry Event.Tick (Reply.Clock 3 0 0)
    ∷ entry Event.Tick (Reply.Clock 4 0 0)
    ∷ entry Event.Tick (Reply.Clock 5 0 0)
    ∷ entry Event.Tick (Reply.Clock 6 0 1)
    ∷ entry (Event.Request 0) Reply.Rested
    ∷ [])

-- no state is reached from the opening state by these entries
abbrev pub IsNoRunAt : Site → List Entry → Type 0
IsNoRunAt site entries = (s : State) → ¬ Run site (opened site.layout 0 (4 ∷ 4 ∷ [])) entries s

-- the first command of the row above, and then one entry
abbrev pub then_one : Entry → List Entry
then_one last = entry (Event.Submit client_x (name_a ∷ name_b ∷ [])) (Reply.Accepted 0) ∷ last ∷ []

-- An agent may not rest while a task waits for it.
abbrev pub NoRestWhileWorkWaits : Type 0
NoRestWhileWorkWaits = IsNoRunAt (site_a 0 1) (then_one (entry (Event.Request 0) Reply.Rested))

-- Its path may not leave out the pickup.
abbrev pub NoPathPastThePickup : Type 0
NoPathPastThePickup = IsNoRunAt (site_a 0 1) (then_one (
    entry (Event.Request 0) (Reply.Took 0 (cell 0 1 ∷ cell 1 1 ∷ cell 2 1 ∷ cell 3 1 ∷ cell 3 0 ∷ []))))

-- a number of steps of waiting, and then the path of 6 steps from P0 by A to B
abbrev pub waits : ℕ → List Cell
waits n = replicate n (cell 0 1) ++ cell 0 1 ∷ cell 1 1 ∷ cell 1 0 ∷ cell 1 1 ∷ cell 2 1 ∷ cell 3 1 ∷ cell 3 0 ∷ []

-- It may not wait for 13 steps: the map has 9 passable cells and the task 2 stops, so that a path has at most 18 steps.
abbrev pub NoEndlessWait : Type 0
NoEndlessWait = IsNoRunAt (site_a 0 1) (then_one (entry (Event.Request 0) (Reply.Took 0 (waits 13))))

-- It may wait for 12.
abbrev pub LongestWait : Type 0
LongestWait = IsRunAt (site_a 0 1) (then_one (entry (Event.Request 0) (Reply.Took 0 (waits 12))))

-- No request may be refused for lack of a path where there is a clear way.
abbrev pub NoRefusalWithAClearWay : Type 0
NoRefusalWithAClearWay = IsNoRunAt (site_a 0 1) (then_one (entry (Event.Request 0) (Reply.Refused Refusal.NoPath)))

-- A tick may not tell a pickup that was not made.
abbrev pub NoPickupInvented : Type 0
NoPickupInvented = IsNoRunAt (site_a 0 1) (then_one (entry Event.Tick (Reply.Clock 1 1 0)))
