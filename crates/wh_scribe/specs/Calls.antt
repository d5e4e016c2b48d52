-- one call of the desk for a command, through a journal
use Rattle.std.specs.Prelude.{◌≡◌, ◌≤◌, ℕ, Bool, List, [], ◌∷◌, ◌++◌, length, Some, slice_get}
use mathlib.Core.List.{IsPrefix}
use Rattle.wh_grid.specs.Grids.{Floor}
use Rattle.wh_event.specs.declared.entry.Entry.{Entry}
use Rattle.wh_event.specs.declared.event.Command.{Command}
use Rattle.wh_desk.specs.Lists.{Received}
use Rattle.wh_board.specs.Pasts.{Origin}
use Rattle.wh_desk.specs.Calls.{AskedNext, Refuses}
use Rattle.wh_crew.specs.Work.{command_of, Takes}
use Rattle.wh_scribe.specs.declared.calling.CallFault.{CallFault}
use Rattle.wh_scribe.specs.declared.calling.CallFault.TheVariants.{Refused, Failed, Unkept}

-- The pass gained this receipt, which answers the command and takes the spare that it tells. Its entry stands in the history that the pass
-- knows now, behind all that it knew of.
pub record Receives {X : Type 0} (fits : X → Floor → Bool) (count : X → ℕ) (grid : Floor) (command : Command) (had : Received) (spares : List X)
    (receipt : ℕ × Entry) (has : Received) (left : List X) : Type 0 where
  pub answers : command_of receipt.1.event ≡ command
  pub caller_is : has.caller ≡ had.caller
  pub gained : has.list ≡ had.list ++ receipt ∷ []
  pub known : IsPrefix had.known has.known
  pub stands : slice_get has.known receipt.0 ≡ Some receipt.1
  pub behind : length had.known ≤ receipt.0
  pub takes : Takes fits count grid receipt.1.event spares left

-- What a call that tells no receipt leaves, where there is a given number of cells. Where the desk refused, the pass has what it had, but
-- for what the refusal tells; where the journal had failed, nothing has changed; where it failed at the entry, the pass has a
-- receipt for it all the same.
abbrev pub Leaves : {X : Type 0} → (X → Floor → Bool) → (X → ℕ) → Floor → ℕ → Command → Received → List X → CallFault → Received → List X → Type 0
Leaves fits count grid cells command had spares (Refused fault) has left = Refuses cells had fault has × (left ≡ spares)
Leaves fits count grid cells command had spares Failed has left = (has ≡ had) × (left ≡ spares)
Leaves fits count grid cells command had spares Unkept has left = (receipt : ℕ × Entry) × Receives fits count grid command had spares receipt has left

-- The same of a call by which the agent that was next to ask took the token, of those that were not asked: nobody is marked as asked but who
-- has the receipt that is told to nobody.
abbrev pub LeavesNext : Origin → ℕ → Received → List Bool → CallFault → Received → List Bool → Type 0
LeavesNext origin cells had asked (Refused fault) has marked = Refuses cells had fault has × (marked ≡ asked)
LeavesNext origin cells had asked Failed has marked = (has ≡ had) × (marked ≡ asked)
LeavesNext origin cells had asked Unkept has marked = (receipt : ℕ × Entry) × AskedNext origin had asked has marked receipt.0 receipt.1
