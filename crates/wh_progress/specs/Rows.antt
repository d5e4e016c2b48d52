-- worked rows, on the small map of the core's rows: one delivery in rounds, and an order of three stops that stands still for good
use Rattle.std.specs.Prelude.{◌≡◌, ℕ, List, [], ◌∷◌, true}
use Rattle.wh_core.specs.States.{State, opened, submitted}
use Rattle.wh_core.specs.Steps.{Run}
use Rattle.wh_core.specs.Rows.{site_a, cell, client_x, name_a, name_b, entry}
use Rattle.wh_event.specs.declared.event.Event.{Event}
use Rattle.wh_event.specs.declared.reply.Reply.{Reply}
use Rattle.wh_event.specs.declared.entry.Entry.{Entry}
use Rattle.wh_progress.specs.Progress.{left_to_do, Rounds, StandsStill, AllDone}

-- agent 0 takes the order, agent 1 rests, and a tick follows
abbrev pub first_round : List Entry
first_round =
    entry (Event.Request 0) (Reply.Took 0 (cell 0 1 ∷ cell 1 1 ∷ cell 1 0 ∷ cell 1 1 ∷ cell 2 1 ∷ cell 3 1 ∷ cell 3 0 ∷ []))
    ∷ entry (Event.Request 1) Reply.Rested
    ∷ entry Event.Tick (Reply.Clock 1 0 0)
    ∷ []

-- agent 0 is on its way, agent 1 rests, and a tick follows
abbrev pub next_round : ℕ → ℕ → ℕ → List Entry
next_round now picked dropped = entry (Event.Request 1) Reply.Rested ∷ entry Event.Tick (Reply.Clock now picked dropped) ∷ []

-- From P0 by A to B: of the 38 rounds that are left to do, on 9 cells, it takes 6.
abbrev pub DeliveredInSix : Type 0
DeliveredInSix =
    (s new : State)
    × Run (site_a 0 1) (opened (site_a 0 1).layout 0 (4 ∷ 4 ∷ [])) (entry (Event.Submit client_x (name_a ∷ name_b ∷ [])) (Reply.Accepted 0) ∷ []) s
    × (left_to_do (site_a 0 1) 2 s ≡ 38)
    × Rounds (site_a 0 1) s
    (first_round ∷ next_round 2 1 0 ∷ next_round 3 0 0 ∷ next_round 4 0 0 ∷ next_round 5 0 0 ∷ next_round 6 0 1 ∷ []) new
    × (left_to_do (site_a 0 1) 2 new ≡ 0) × AllDone new

-- Where paths go on home an open task weighs one span, of three passes over the 9 cells and one round: 28 are left of the same order.
abbrev pub LeftWithHomes : Type 0
LeftWithHomes =
    left_to_do (record (site_a 0 1) { homes = true }) 2 (submitted client_x (cell 1 0 ∷ cell 3 0 ∷ []) (opened (site_a 0 1).layout 0 (4 ∷ 4 ∷ [])))
    ≡ 28

-- the order of A, then C, then D, once it was submitted with agents at A and at C
abbrev pub state_of_three : State
state_of_three = submitted client_x (cell 1 0 ∷ cell 1 2 ∷ cell 3 2 ∷ []) (opened (site_a 2 4).layout 0 (4 ∷ 4 ∷ []))

-- It stands still there: with three stops not all is delivered.
abbrev pub ThreeStopsStand : Type 0
ThreeStopsStand =
    Run (site_a 2 4) (opened (site_a 2 4).layout 0 (4 ∷ 4 ∷ []))
    (entry (Event.Submit client_x (name_a ∷ (67 ∷ []) ∷ (68 ∷ []) ∷ [])) (Reply.Accepted 0) ∷ []) state_of_three
    × StandsStill (site_a 2 4) state_of_three × ¬ AllDone state_of_three
