-- which states a best-first search expands: makes the successors of
use Rattle.std.specs.Prelude.{◌≡◌, ℕ, ◌-◌, List, true}
use Rattle.wh_grid.specs.declared.cell.Cell.{Cell}
use Rattle.wh_grid.specs.Grids.{Floor}
use Rattle.wh_resv.specs.Calls.{IsVacant}
use Rattle.wh_resv.specs.Others.{Others, MayRest}
use Rattle.wh_search.specs.States.{State, Arrives, Steps, Reaches}

-- an agent that is at loc at 0, and has the stops behind it that it is at, may be in the state s at k
pub record IsReachable (g : Floor) (others : Others) (via : List Cell) (loc : Cell) (k : ℕ) (s : State) : Type 0 where
  pub first : ℕ
  pub arrives : Arrives via 0 loc first
  pub reaches : Reaches (Steps g others via) (record { leg = first; cell = loc }) k s

-- An agent may come to a cell at k and rest there: none is there at k or later; and none just before, where nobody may follow.
pub record MayEnd (others : Others) (c : Cell) (k : ℕ) : Type 0 where
  pub rests : MayRest others c k
  pub follows_none : others.nofollow ≡ true → MayRest others c (k - 1)

-- An agent may be at a cell at k: none of the others is; and none was just before, where nobody may follow.
pub record MayVisit (others : Others) (c : Cell) (k : ℕ) : Type 0 where
  pub vacant : IsVacant others.paths c k
  pub follows_none : others.nofollow ≡ true → IsVacant others.paths c (k - 1)
